use Rattle.std.proofs.Common.{◌<◌, get_or, length, arith}
use Rattle.std.proofs.lemmas.List.{get_or_default}
use Rattle.rsl_book.specs.Seen.{sweep_kept}
use Rattle.rsl_book.proofs.Swept.{changed_more}
use Rattle.rsl_book.proofs.ring.sweep_each.Goals as goal

pub loop-index-preserved : goal.loop-index-preserved
unfolding sweep_kept
loop-index-preserved g c =
    let few = c.loop-index-test.true in
    let long = c.loop-index.auto.all in
    let within : c.loop-index.index < length c.loop-index.all = omega (arith, few, long) in
    changed_more (sweep_kept c.args.servers.now c.args.nas.now c.args.delay c.args.now) c.args.all.now c.loop-index.all c.loop-index.index (get_or c.loop-index.all c.loop-index.index c.index-all-index.result) c.sweep.new.self
    few c.loop-index.invariant (get_or_default c.loop-index.all c.loop-index.index c.index-all-index.result (get_or c.loop-index.all c.loop-index.index c.index-all-index.result) within) c.sweep.ensures
