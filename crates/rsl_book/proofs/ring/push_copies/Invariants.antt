use Rattle.std.proofs.Common.{◌≡◌, ◌++◌, take}
use Rattle.circular_buffer.specs.Buffer.{buffer}
use Rattle.rsl_book.proofs.ring.push_copies.Given as goal

abbrev pub invariant-loop-one : goal.invariant-loop-one
invariant-loop-one g l = l.copy ≡ buffer (l.initial.copy.items ++ take l.one-index l.all) l.initial.copy.capacity
