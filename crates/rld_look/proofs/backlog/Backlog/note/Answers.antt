use Rattle.std.proofs.Common.{◌∷◌, ◌++◌, [], refl, ap, ◌∙◌}
use Rattle.rld_look.specs.Backlog.{BacklogSeen}
use Rattle.rld_look.specs.Refusal.{refusal_of}
use Rattle.rld_look.proofs.Noting.{left_out_as, noted_left_out, noted_waits}
use Rattle.rld_look.proofs.backlog.Backlog.note.Goals as goal

pub returns-then-is_full-clause-all : goal.returns-then-is_full-clause-all
returns-then-is_full-clause-all c = λ fates has.
    noted_left_out c.args.refused.now.fate fates c.args.self.now _ has
    (left_out_as c.args.refused.now.fate c.self.inside.waiting.items c.note.new.self _ c.args.self.now c.self.view_is refl (c.note.ensures.own, c.note.ensures.others))

pub returns-in-Ok-clause-all : goal.returns-in-Ok-clause-all
returns-in-Ok-clause-all c = λ fates has.
    noted_waits (refusal_of c.args.refused.now) fates c.args.self.now _ has (c.is_full.ensures.few c.if-is_full.false)
    (c.in-Ok.ensures.ok ∙ ap (λ (b : BacklogSeen). b.waiting ++ refusal_of c.args.refused.now ∷ []) c.self.view_is)
    (ap (λ (b : BacklogSeen). b.left_out) c.self.view_is)

pub returns-in-Err-clause-all : goal.returns-in-Err-clause-all
returns-in-Err-clause-all c = λ fates has.
    noted_left_out c.args.refused.now.fate fates c.args.self.now _ has
    (left_out_as c.args.refused.now.fate c.push_refusal.new.waiting.items c.note-in-Err.new.self _ c.args.self.now c.self.view_is c.in-Err.ensures.err (c.note-in-Err.ensures.own, c.note-in-Err.ensures.others))
