use Rattle.std.proofs.Common.{◌≡◌, ◌++◌, take, drop, map}
use Rattle.rsl_shard.specs.Opening.{as_new}
use Rattle.rsl_shard.proofs.books.renew_each.Given as goal

abbrev pub invariant-loop-index : goal.invariant-loop-index
invariant-loop-index l =
    l.books ≡ map as_new (take l.index l.initial.books) ++ drop l.index l.initial.books
