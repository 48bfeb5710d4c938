use Rattle.std.proofs.Common.{length, ap, arith}
use Rattle.std.specs.Vec.Iter.{into_iter_items}
use Rattle.rld_books.specs.Server.{replay}
use Rattle.rld_store.proofs.Replaying.{none_left, step_left}
use Rattle.rld_store.proofs.reading.make_each.Goals as goal

pub loop-moved-preserved : goal.loop-moved-preserved
loop-moved-preserved c =
    let long = ap length c.in-Some.ensures.steps.0 in
    record {
      can_next = tt;
      is_finite = tt;
      len = omega (arith, c.loop-moved.invariant.len, c.in-Some.ensures.steps.1, long);
      left = step_left c.loop-moved.books c.make.new.self (replay c.args.books.now c.args.batch.items) (into_iter_items c.loop-moved.moved-iterator) (into_iter_items c.next.new.self) c.in-Some.moved
          c.loop-moved.invariant.left c.in-Some.ensures.steps.0 c.make.ensures.books;
    }

pub returns-clause-books : goal.returns-clause-books
returns-clause-books c =
    none_left c.loop-moved.books (replay c.args.books.now c.args.batch.items) (into_iter_items c.loop-moved.moved-iterator) c.loop-moved.invariant.left
    (omega (arith, c.loop-moved.invariant.len, c.in-None.ensures.steps.0))
