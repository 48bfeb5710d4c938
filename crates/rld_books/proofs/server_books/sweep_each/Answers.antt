use Rattle.std.proofs.Common.{◌∙◌, arith, length-set}
use Rattle.rsl_event.specs.declared.event.Act.TheVariants.{Sweep}
use Rattle.rsl_event.specs.declared.event.Decision.TheVariants.{Done}
use Rattle.rld_books.proofs.Stepping.{one_more}
use Rattle.rld_books.proofs.server_books.sweep_each.Goals as goal

pub loop-index-preserved : goal.loop-index-preserved
loop-index-preserved c =
    record {
      books = one_more (record { moment = c.args.moment; act = Sweep c.args.nas.now c.args.delay }) c.loop-index.books c.args.books.now c.loop-index.index
          c.index-books-index.result c.sweep.new.self (omega arith) (omega arith) c.loop-index.invariant.books
          Done c.sweep.ensures.step c.sweep.ensures.rules;
      len = length-set c.loop-index.books c.loop-index.index c.sweep.new.self ∙ c.loop-index.invariant.len;
    }
