use Rattle.std.proofs.Common.{◌≡◌, ◌≤◌, cond, arith}
use Rattle.rsl_session.specs.Saved.{saved_link}
use Rattle.rsl_session.specs.Places.{is_bundle}
use Rattle.rsl_session.specs.declared.bundle.Bundle.{Bundle}
use Rattle.rld_books.proofs.Placing.{at_most_one, counted_more, none_counted}
use Rattle.rld_books.proofs.place.members.Goals as goal

pub loop-link-init : goal.loop-link-init
loop-link-init c = record { counted = none_counted (record { nas = c.args.nas.now; id = c.args.id.now }); few = omega arith }

pub loop-link-preserved : goal.loop-link-preserved
loop-link-preserved c =
    let bundle : Bundle = record { nas = c.args.nas.now; id = c.args.id.now } in
    let more : c.counts-count.result ≡ cond (is_bundle bundle (saved_link c.link-item.result).bundle) 1 0 = c.counts-count.ensures in
    let one : c.counts-count.result ≤ 1 = at_most_one (is_bundle bundle (saved_link c.link-item.result).bundle) c.counts-count.result more in
    record {
      counted = counted_more bundle c.args.links.now c.loop-link.link-index c.loop-link.count c.counts-count.result c.link-item.result c.loop-link-test.true c.link-item.is c.loop-link.invariant.counted more;
      few = omega (arith, c.loop-link.invariant.few, one);
    }
