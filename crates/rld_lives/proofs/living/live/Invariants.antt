use Rattle.std.proofs.Common.{◌≡◌, ◌+◌, ◌≤◌, ◌++◌, false, List, [], IsTrue, length, vec_len}
use Rattle.std.specs.Arc.{arc_value}
use Rattle.std.specs.Vec.{vec_capacity}
use Rattle.std.specs.Vec.Iter.{into_iter_items, into_iter_len}
use Rattle.rld_books.specs.Server.{ServerSeen}
use Rattle.rsl_shard.specs.declared.moved.Move.{Move}
use Rattle.rld_store.specs.Standing.{StandsFor}
use Rattle.rld_lives.specs.Leaving.{batches_of}
use Rattle.rld_lives.specs.Life.{AreOutcomes, Outcome, has_ended}
use Rattle.rld_lives.proofs.Leaving.{GoesOn}
use Rattle.rld_lives.proofs.living.live.Given as goal

abbrev pub invariant-loop-step : goal.invariant-loop-step
invariant-loop-step g l = record {
  can_next : (goal.iterator-loop-step g).can_next l.step-iterator;
  is_finite : (goal.iterator-loop-step g).is_finite l.step-iterator;
  len : into_iter_len l.step-iterator ≡ length (into_iter_items l.step-iterator);
  room : vec_len l.outcomes + length (into_iter_items l.step-iterator) ≤ vec_capacity l.outcomes;
  told : IsTrue (g.L.Log.tells l.store.log) → IsTrue (g.L.Log.tells l.fn.store.log);
  out : (later : List Outcome) → AreOutcomes l.store.books (batches_of (into_iter_items l.step-iterator)) later
      → AreOutcomes l.fn.store.books (batches_of l.fn.steps.items) (l.outcomes.items ++ later);
  over : l.fn.store.is_over ≡ false → (l.store.is_over ≡ false) × (has_ended l.outcomes.items ≡ false);
  same : l.store.config ≡ l.fn.store.config;
  goes : IsTrue (g.L.Log.tells l.store.log) → (opening : ServerSeen) (history : List Move)
      → StandsFor (arc_value l.fn.store.config) opening g.L.Log.tears l.fn.store.end (g.L.Log.seen l.fn.store.log) (g.L.Log.may_leave l.fn.store.log) l.fn.store.whole l.fn.store.books history []
      → GoesOn (arc_value l.fn.store.config) opening g.L.Log.tears l.store.end (g.L.Log.seen l.store.log) (g.L.Log.may_leave l.store.log) l.store.whole l.store.books history
      (batches_of l.fn.steps.items) l.outcomes.items (batches_of (into_iter_items l.step-iterator));
}
