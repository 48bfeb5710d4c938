use Rattle.std.proofs.Common.{◌∙◌, arith, length-set}
use Rattle.rsl_event.specs.declared.event.Act.TheVariants.{Tick}
use Rattle.rsl_event.specs.declared.event.Decision.TheVariants.{Done}
use Rattle.rld_books.proofs.Stepping.{one_more}
use Rattle.rld_books.proofs.server_books.tick_each.Goals as goal

pub loop-index-preserved : goal.loop-index-preserved
loop-index-preserved c =
    record {
      books = one_more (record { moment = c.args.moment; act = Tick }) c.loop-index.books c.args.books.now c.loop-index.index
          c.index-books-index.result c.tick.new.self (omega arith) (omega arith) c.loop-index.invariant.books
          Done c.tick.ensures.step c.tick.ensures.rules;
      len = length-set c.loop-index.books c.loop-index.index c.tick.new.self ∙ c.loop-index.invariant.len;
    }
