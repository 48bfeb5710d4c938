use Rattle.std.proofs.Common.{List, ℕ, subst}
use Rattle.std.specs.Prelude.{IfNone, IfSome}
use Rattle.std.specs.List.Sorted.{IsStrictlyIncreasing}
use Rattle.std.proofs.lemmas.List.Sorted.{IsNonDecreasingBy-from_sort}
use Rattle.rsl_record.proofs.Counting.{once_in_order, twice_in_order}
use Rattle.rsl_record.specs.Receipts.{FallsTo}
use Rattle.rsl_record.proofs.positions.first_duplicate.Goals as goal

pub returns-clause-twice : goal.returns-clause-twice
returns-clause-twice c =
    twice_in_order c.args.positions.items c.sort_unstable.new.self.items c.first_not_rising.result c.sort_unstable.ensures.permutation
    (IsNonDecreasingBy-from_sort (λ (n : ℕ). n) c.sort_unstable.new.self.items c.sort_unstable.ensures.sorted)
    (subst (λ (all : List ℕ). IfSome c.first_not_rising.result (FallsTo all)) c.as_slice.ensures.value c.first_not_rising.ensures.falls)

pub returns-clause-once : goal.returns-clause-once
returns-clause-once c =
    once_in_order c.args.positions.items c.sort_unstable.new.self.items c.first_not_rising.result c.sort_unstable.ensures.permutation
    (subst (λ (all : List ℕ). IfNone c.first_not_rising.result (IsStrictlyIncreasing all)) c.as_slice.ensures.value c.first_not_rising.ensures.rises)
