use Rattle.std.proofs.Common.{◌≡◌, List, length, ap, arith}
use Rattle.std.proofs.lemmas.List.{nil_from_length}
use Rattle.std.specs.Vec.Iter.{into_iter_items}
use Rattle.rsl_shard.specs.declared.moved.Move.{Move}
use Rattle.rld_books.proofs.Making.{all_decided, all_left, all_made, first_taken, one_made}
use Rattle.rld_books.proofs.server_books.ServerBooks.make_all.Goals as goal

pub loop-moved-init : goal.loop-moved-init
loop-moved-init c =
    let gives = c.into_iter-moved-iterator.ensures.into_iter_gives in
    let left : List Move = into_iter_items c.into_iter-moved-iterator.result in
    let long : length left ≡ length c.args.batch.items = ap length gives.0 in
    record {
      can_next = tt;
      is_finite = tt;
      len = omega (arith, gives.1, long, c.args.batch.ok);
      room = omega (arith, long, c.requires.room, c.requires.empty);
      left = all_left c.args.self.now c.args.batch.items left c.args.decisions.items c.requires.taken gives.0
          (nil_from_length c.args.decisions.items (omega (arith, c.args.decisions.ok, c.requires.empty)));
    }

pub make-requires : goal.make-requires
make-requires c =
    first_taken c.args.self.now c.args.batch.items (into_iter_items c.loop-moved.moved-iterator) (into_iter_items c.next.new.self) c.loop-moved.decisions.items c.loop-moved.self c.in-Some.moved
    c.loop-moved.invariant.left c.in-Some.ensures.steps.0

pub loop-moved-preserved : goal.loop-moved-preserved
loop-moved-preserved c =
    let long = ap length c.in-Some.ensures.steps.0 in
    record {
      can_next = tt;
      is_finite = tt;
      len = omega (arith, c.loop-moved.invariant.len, c.in-Some.ensures.steps.1, long);
      room = omega (arith, c.loop-moved.invariant.room, long, c.push_reserved.ensures.len, c.push_reserved.ensures.capacity);
      left = one_made c.args.self.now c.args.batch.items (into_iter_items c.loop-moved.moved-iterator) (into_iter_items c.next.new.self) c.loop-moved.decisions.items c.push_reserved.new.self.items
          c.loop-moved.self c.make.new.self c.in-Some.moved c.make.result c.loop-moved.invariant.left c.in-Some.ensures.steps.0 c.make.ensures.decision c.make.ensures.books c.push_reserved.ensures.items;
    }

pub returns-clause-decisions : goal.returns-clause-decisions
returns-clause-decisions c =
    all_decided c.args.self.now c.args.batch.items (into_iter_items c.loop-moved.moved-iterator) c.loop-moved.decisions.items c.loop-moved.self c.loop-moved.invariant.left
    (omega (arith, c.loop-moved.invariant.len, c.in-None.ensures.steps.0))

pub returns-clause-books : goal.returns-clause-books
returns-clause-books c =
    all_made c.args.self.now c.args.batch.items (into_iter_items c.loop-moved.moved-iterator) c.loop-moved.decisions.items c.loop-moved.self c.loop-moved.invariant.left
    (omega (arith, c.loop-moved.invariant.len, c.in-None.ensures.steps.0))
