use Rattle.rld_turn.proofs.Telling.{known_told}
use Rattle.rld_turn.proofs.present.Present.tell.Goals as goal

pub returns-clause-told : goal.returns-clause-told
returns-clause-told g c =
    known_told c.args.self.now.config.now c.args.ended
    (g.W.Watch.knows c.args.watch.now) (g.W.Watch.knows c.note.new.self) c.requires c.note.ensures.told
