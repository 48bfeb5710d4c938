use Rattle.std.proofs.Common.{◌≡◌, true, List, [], ◌∷◌, refl, subst, ◌∙◌, arith}
use Rattle.std.specs.List.{AllByRecursion}
use Rattle.std.proofs.lemmas.List.{nil_from_length}
use Rattle.rld_turn.proofs.Replying.{all_answered, none_answered, one_answered}
use Rattle.rld_turn.specs.Ended.{CanEnd}
use Rattle.rld_turn.specs.Recorded.{decisions_in}
use Rattle.rld_turn.specs.Present.{service_of}
use Rattle.rld_turn.specs.declared.request.Entry.{Entry}
use Rattle.rld_turn.proofs.receiver.Receiver.answer.Goals as goal

pub loop-entry-init : goal.loop-entry-init
loop-entry-init g c = record {
  same = refl;
  can = c.requires.can;
  contents = refl;
  telling = λ told. told;
  taken = λ told. refl;
  room = λ told. refl;
  down = λ told. refl;
  turns = refl;
  answered = λ batch. none_answered _ _ (g.P.DatagramPort.tells c.args.datagrams.now ≡ true) _ _ batch (g.P.DatagramPort.sent c.args.datagrams.now) (g.W.Watch.knows c.args.watch.now);
}

pub loop-entry-preserved : goal.loop-entry-preserved
loop-entry-preserved g c =
    let service = service_of c.args.present.now in
    let decisions = decisions_in c.args.recorded.now in
    let first : c.loop-entry.self.queue.items ≡ c.in-Some.entry ∷ c.pop_front.new.self.items = c.in-Some.ensures.items in
    record {
      same = c.loop-entry.invariant.same;
      can = (subst (λ (l : List Entry). AllByRecursion (CanEnd c.args.present.now.config.now decisions) l) first c.loop-entry.invariant.can).1;
      contents = c.end.ensures.contents ∙ c.loop-entry.invariant.contents;
      telling = λ told. c.loop-entry.invariant.telling (c.end.ensures.telling told);
      taken = λ told. c.end.ensures.taken told ∙ c.loop-entry.invariant.taken (c.end.ensures.telling told);
      room = λ told. c.end.ensures.room told ∙ c.loop-entry.invariant.room (c.end.ensures.telling told);
      down = λ told. c.end.ensures.down told ∙ c.loop-entry.invariant.down (c.end.ensures.telling told);
      turns = c.end.ensures.turns ∙ c.loop-entry.invariant.turns;
      answered = λ batch.
          one_answered service c.args.self.now.port (g.P.DatagramPort.tells c.loop-entry.datagrams ≡ true) (g.P.DatagramPort.tells c.end.new.datagrams ≡ true) batch.moment decisions batch.begun batch.taken batch.moves
          c.in-Some.entry c.loop-entry.self.queue.items c.pop_front.new.self.items c.end.result
          (g.P.DatagramPort.sent c.args.datagrams.now) (g.P.DatagramPort.sent c.loop-entry.datagrams) (g.P.DatagramPort.sent c.end.new.datagrams)
          (g.W.Watch.knows c.args.watch.now) (g.W.Watch.knows c.loop-entry.watch) (g.W.Watch.knows c.end.new.watch)
          first batch.decided c.end.ensures.end c.end.ensures.telling c.end.ensures.sent c.end.ensures.told
          (c.loop-entry.invariant.answered batch);
    }

pub returns-clause-answered : goal.returns-clause-answered
returns-clause-answered g c = λ batch.
    let none : c.loop-entry.self.queue.items ≡ [] = nil_from_length c.loop-entry.self.queue.items (omega (arith, c.in_default.ensures.cases.0)) in
    all_answered _ _ _ _ _ batch c.loop-entry.self.queue.items
    (g.P.DatagramPort.sent c.args.datagrams.now) (g.P.DatagramPort.sent c.loop-entry.datagrams)
    (g.W.Watch.knows c.args.watch.now) (g.W.Watch.knows c.loop-entry.watch)
    none (c.loop-entry.invariant.answered batch)
