use Rattle.std.proofs.Common.{◌≡◌, length}
use Rattle.std.specs.Vec.Iter.{into_iter_items, into_iter_len}
use Rattle.rld_books.specs.Server.{replay}
use Rattle.rld_store.proofs.reading.make_each.Given as goal

abbrev pub invariant-loop-moved : goal.invariant-loop-moved
invariant-loop-moved l = record {
  can_next : (goal.iterator-loop-moved).can_next l.moved-iterator;
  is_finite : (goal.iterator-loop-moved).is_finite l.moved-iterator;
  len : into_iter_len l.moved-iterator ≡ length (into_iter_items l.moved-iterator);
  left : replay l.books (into_iter_items l.moved-iterator) ≡ replay l.initial.books l.fn.batch.items;
}
