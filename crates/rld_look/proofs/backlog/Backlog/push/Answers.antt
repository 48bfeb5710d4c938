use Rattle.std.proofs.Common.{◌∷◌, ◌++◌, [], refl, ap, ◌∙◌}
use Rattle.rld_look.specs.Backlog.{BacklogSeen}
use Rattle.rld_look.proofs.Noting.{left_out_as, noted_left_out, noted_waits}
use Rattle.rld_look.proofs.backlog.Backlog.push.Goals as goal

pub returns-in-Waits-clause-all : goal.returns-in-Waits-clause-all
returns-in-Waits-clause-all c = λ fates has.
    let pushed = c.in-Waits.ensures.waits refl in
    noted_waits c.args.refusal fates c.args.self.now _ has (c.is_full-is_full.ensures.few pushed.0)
    (pushed.1 ∙ ap (λ (b : BacklogSeen). b.waiting ++ c.args.refusal ∷ []) c.self.view_is)
    (ap (λ (b : BacklogSeen). b.left_out) c.self.view_is)

pub returns-in-LeftOut-clause-all : goal.returns-in-LeftOut-clause-all
returns-in-LeftOut-clause-all c = λ fates has.
    noted_left_out c.args.refusal.fate fates c.args.self.now _ has
    (left_out_as c.args.refusal.fate c.push_unless.new.waiting.items c.note-in-LeftOut.new.self _ c.args.self.now c.self.view_is
    (c.in-LeftOut.ensures.left_out refl).1 (c.note-in-LeftOut.ensures.own, c.note-in-LeftOut.ensures.others))

pub returns-in-NoMemory-clause-all : goal.returns-in-NoMemory-clause-all
returns-in-NoMemory-clause-all c = λ fates has.
    noted_left_out c.args.refusal.fate fates c.args.self.now _ has
    (left_out_as c.args.refusal.fate c.push_unless.new.waiting.items c.note-in-NoMemory.new.self _ c.args.self.now c.self.view_is
    (c.in-NoMemory.ensures.no_memory refl).1 (c.note-in-NoMemory.ensures.own, c.note-in-NoMemory.ensures.others))
