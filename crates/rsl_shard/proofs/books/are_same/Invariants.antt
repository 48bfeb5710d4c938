use Rattle.std.proofs.Common.{◌≡◌, take}
use Rattle.rsl_shard.proofs.books.are_same.Given as goal

abbrev pub invariant-loop-index : goal.invariant-loop-index
invariant-loop-index l = take l.index l.books ≡ take l.index l.others
