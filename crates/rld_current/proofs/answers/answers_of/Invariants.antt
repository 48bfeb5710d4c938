use Rattle.std.proofs.Common.{◌≡◌, ◌++◌, drop}
use Rattle.std.specs.Prelude.{map}
use Rattle.rld_current.specs.Asking.{answers_told, told_in}
use Rattle.rld_current.proofs.answers.answers_of.Given as goal

abbrev pub invariant-loop-one : goal.invariant-loop-one
invariant-loop-one l =
    answers_told l.noted l.initial.replies.items
    ≡ map told_in l.answers.items ++ answers_told (drop l.one-index l.noted) l.replies.items
