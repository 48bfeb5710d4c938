use Rattle.std.proofs.Common.{arith}
use Rattle.std.proofs.lemmas.List.Elements.{All-set}
use Rattle.rsl_book.specs.RuledBook.{IsWithinLimit}
use Rattle.rsl_event.specs.declared.event.Act.TheVariants.{Tick}
use Rattle.rsl_event.specs.declared.event.Decision.TheVariants.{Done}
use Rattle.rsl_shard.proofs.Moving.{one_more}
use Rattle.rsl_shard.proofs.books.tick_each.Goals as goal

pub loop-index-preserved : goal.loop-index-preserved
loop-index-preserved c =
    record {
      books = one_more (record { moment = c.args.moment; act = Tick }) c.loop-index.books c.args.books.now c.loop-index.index
          c.index-books-index.result c.tick.new.self (omega arith) (omega arith) c.loop-index.invariant.books
          Done c.tick.ensures.step c.tick.ensures.rules;
      limit = All-set IsWithinLimit c.loop-index.books c.loop-index.index c.tick.new.self c.tick.ensures.limit c.loop-index.invariant.limit;
    }
