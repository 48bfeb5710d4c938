use Rattle.std.proofs.Common.{refl}
use Rattle.rld_look.proofs.Noting.{left_out_as, noted_left_out}
use Rattle.rld_look.proofs.backlog.Backlog.leave_out.Goals as goal

pub returns-then-is_full-clause-all : goal.returns-then-is_full-clause-all
returns-then-is_full-clause-all c = λ _ fates has.
    noted_left_out c.args.fate fates c.args.self.now _ has
    (left_out_as c.args.fate c.self.inside.waiting.items c.note.new.self _ c.args.self.now c.self.view_is refl (c.note.ensures.own, c.note.ensures.others))
