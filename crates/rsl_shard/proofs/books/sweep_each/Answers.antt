use Rattle.std.proofs.Common.{arith}
use Rattle.std.proofs.lemmas.List.Elements.{All-set}
use Rattle.rsl_book.specs.RuledBook.{IsWithinLimit}
use Rattle.rsl_event.specs.declared.event.Act.TheVariants.{Sweep}
use Rattle.rsl_event.specs.declared.event.Decision.TheVariants.{Done}
use Rattle.rsl_shard.proofs.Moving.{one_more}
use Rattle.rsl_shard.proofs.books.sweep_each.Goals as goal

pub loop-at-preserved : goal.loop-at-preserved
loop-at-preserved c =
    record {
      books = one_more (record { moment = c.args.moment; act = Sweep c.args.nas.now c.args.delay }) c.loop-at.books c.args.books.now c.loop-at.at
          c.index-books-at.result c.sweep.new.self (omega arith) (omega arith) c.loop-at.invariant.books
          Done c.sweep.ensures.step c.sweep.ensures.rules;
      limit = All-set IsWithinLimit c.loop-at.books c.loop-at.at c.sweep.new.self c.sweep.ensures.limit c.loop-at.invariant.limit;
    }
