use Rattle.std.proofs.Common.{◌≡◌, ◌+◌, ◌≤◌, length, vec_len}
use Rattle.std.specs.Vec.{vec_capacity}
use Rattle.std.specs.Vec.Iter.{into_iter_items, into_iter_len}
use Rattle.rld_books.proofs.Making.{AreLeft}
use Rattle.rld_books.proofs.server_books.ServerBooks.make_all.Given as goal

abbrev pub invariant-loop-moved : goal.invariant-loop-moved
invariant-loop-moved l = record {
  can_next : (goal.iterator-loop-moved).can_next l.moved-iterator;
  is_finite : (goal.iterator-loop-moved).is_finite l.moved-iterator;
  len : into_iter_len l.moved-iterator ≡ length (into_iter_items l.moved-iterator);
  room : vec_len l.decisions + length (into_iter_items l.moved-iterator) ≤ vec_capacity l.decisions;
  left : AreLeft l.fn.self l.fn.batch.items (into_iter_items l.moved-iterator) l.decisions.items l.self;
}
