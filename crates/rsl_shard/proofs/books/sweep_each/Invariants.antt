use Rattle.std.proofs.Common.{◌≡◌, ◌++◌, take, drop, map, All, Some}
use Rattle.rsl_book.specs.RuledBook.{IsWithinLimit}
use Rattle.rsl_event.specs.declared.event.Act.TheVariants.{Sweep}
use Rattle.rsl_shard.specs.Restep.{step_by}
use Rattle.rsl_shard.proofs.books.sweep_each.Given as goal

abbrev pub invariant-loop-at : goal.invariant-loop-at
invariant-loop-at l =
    record {
      books : l.books ≡ map (step_by (Some (record { moment = l.moment; act = Sweep l.nas l.delay }))) (take l.at l.initial.books) ++ drop l.at l.initial.books;
      limit : All IsWithinLimit l.books;
    }
