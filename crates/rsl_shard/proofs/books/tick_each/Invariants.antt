use Rattle.std.proofs.Common.{◌≡◌, ◌++◌, take, drop, map, All, Some}
use Rattle.rsl_book.specs.RuledBook.{IsWithinLimit}
use Rattle.rsl_event.specs.declared.event.Act.TheVariants.{Tick}
use Rattle.rsl_shard.specs.Replay.{step_by}
use Rattle.rsl_shard.proofs.books.tick_each.Given as goal

abbrev pub invariant-loop-place : goal.invariant-loop-place
invariant-loop-place l =
    record {
      books : l.books ≡ map (step_by (Some (record { moment = l.moment; act = Tick }))) (take l.place l.initial.books) ++ drop l.place l.initial.books;
      limit : All IsWithinLimit l.books;
    }
