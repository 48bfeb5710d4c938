use Rattle.std.proofs.Common.{◌≡◌, ◌<◌, ◌-◌, arith, length}
use Rattle.std.proofs.lemmas.Bool.Decides.{nat_tests}
use Rattle.rsl_wire.specs.Attributes.{attribute_list}
use Rattle.rsl_wire.proofs.AttributeLaws.{shorter, follows_start, follows_next, follows_bad, follows_end}
use Rattle.rsl_wire.proofs.attributes.Attrs.checked.Goals as goal

pub loop-rest-init : goal.loop-rest-init
loop-rest-init c =
    let zero : length c.args.octets.now - length c.args.octets.now ≡ 0 = omega arith in
    record { within = omega arith; follows = rw zero (follows_start (attribute_list c.args.octets.now)) }

pub returns-in_default : goal.returns-in_default
returns-in_default c =
    let some : 0 < length c.loop-rest.rest.now = grind (arith, nat_tests) in
    follows_bad c.loop-rest.rest.now _ (attribute_list c.args.octets.now) some c.in_default.ensures c.loop-rest.invariant.follows

pub loop-rest-smaller : goal.loop-rest-smaller
loop-rest-smaller c = let less = shorter c.loop-rest.rest.now _ c.in-Some.after.now c.in-Some.ensures in omega (arith, less)

pub loop-rest-preserved : goal.loop-rest-preserved
loop-rest-preserved c =
    let less = shorter c.loop-rest.rest.now _ c.in-Some.after.now c.in-Some.ensures in
    record {
      within = omega (arith, less);
      follows = follows_next (length c.args.octets.now) c.loop-rest.rest.now _ c.in-Some.after.now (attribute_list c.args.octets.now) c.loop-rest.invariant.within c.in-Some.ensures c.loop-rest.invariant.follows;
    }

pub invariant_of-result : goal.invariant_of-result
invariant_of-result c =
    let none : length c.loop-rest.rest.now ≡ 0 = grind (arith, nat_tests) in
    follows_end c.loop-rest.rest.now _ (attribute_list c.args.octets.now) none c.loop-rest.invariant.follows

pub returns : goal.returns
returns c =
    let none : length c.loop-rest.rest.now ≡ 0 = grind (arith, nat_tests) in
    follows_end c.loop-rest.rest.now _ (attribute_list c.args.octets.now) none c.loop-rest.invariant.follows
