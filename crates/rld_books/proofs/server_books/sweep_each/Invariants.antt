use Rattle.std.proofs.Common.{◌≡◌, ◌++◌, take, drop, map, length, Some}
use Rattle.rsl_event.specs.declared.event.Act.TheVariants.{Sweep}
use Rattle.rsl_shard.specs.Restep.{step_by}
use Rattle.rld_books.proofs.server_books.sweep_each.Given as goal

abbrev pub invariant-loop-index : goal.invariant-loop-index
invariant-loop-index l = record {
  books : l.books ≡ map (step_by (Some (record { moment = l.moment; act = Sweep l.nas l.delay }))) (take l.index l.initial.books) ++ drop l.index l.initial.books;
  len : length l.books ≡ length l.initial.books;
}
