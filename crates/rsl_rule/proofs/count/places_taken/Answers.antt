use Rattle.std.proofs.Common.{◌≡◌, ◌+◌, ◌^◌, ◌<◌, ◌≤◌, ℕ, drop, length, arith, sym, ◌∙◌, ap}
use Rattle.std.specs.Prelude.{count_by}
use Rattle.std.proofs.lemmas.List.{take_rest}
use Rattle.rsl_session.specs.Places.{is_bundle}
use Rattle.rsl_session.proofs.Callers.{places_of-le}
use Rattle.rsl_rule.proofs.Counted.{places_alone, places_last, places_earlier}
use Rattle.rsl_rule.proofs.count.places_taken.Goals as goal
use Rattle.rsl_rule.proofs.count.places_taken.Goals.{in-None, in-Some+then-link_count-eq0, in-Some+else-link_count-eq0}

-- the places so far and one bundle's are within those of all
fits_more : (places result left next share total most : ℕ) → result ≡ share → left ≡ next + share → places + left ≡ total → total ≤ most → most < 2 ^ 64 → places + result < 2 ^ 64
fits_more places result left next share total most is more whole within fits = omega arith

adds_share : (places result new left next share total : ℕ) → result ≡ share → left ≡ next + share → places + left ≡ total → new ≡ places + result → new + next ≡ total
adds_share places result new left next share total is more whole sum = omega arith

pub overflow_add-places-then-link_count-eq0 : goal.overflow_add-places-then-link_count-eq0
overflow_add-places-then-link_count-eq0 c =
    let rest = take_rest c.args.bundles.now (c.loop-at.at + 1) in
    let none : count_by (is_bundle c.in-Some.bundle) (drop (c.loop-at.at + 1) c.args.bundles.now) ≡ 0 =
    sym (ap (count_by (is_bundle c.in-Some.bundle)) rest) ∙ sym c.link_count.ensures ∙ c.if-link_count-eq0.true in
    let last = places_last c.args.ports c.args.bundles.now c.loop-at.at c.index-bundles-at.result c.in-Some.bundle (omega arith) c.index-bundles-at.is c.in-Some.is none in
    let most = places_of-le c.args.ports c.args.bundles.now c.requires in
    let short : length c.args.bundles.now < 2 ^ 64 = omega arith in
    let sum : c.loop-at.places + c.places_of_bundle-places.result < 2 ^ 64 =
    fits_more c.loop-at.places c.places_of_bundle-places.result _ _ _ _ _ c.places_of_bundle-places.ensures last c.loop-at.invariant most short in
    omega arith

pub loop-at-preserved : goal.loop-at-preserved
loop-at-preserved c = elim c.match-bundle.branch [
  | in-None w ↦
      let alone = places_alone c.args.ports c.args.bundles.now c.loop-at.at c.index-bundles-at.result (omega arith) c.index-bundles-at.is w.in-None.is in
      omega (arith, c.loop-at.invariant)
  | in-Some+then-link_count-eq0 w ↦
      let rest = take_rest c.args.bundles.now (c.loop-at.at + 1) in
      let none : count_by (is_bundle w.in-Some.bundle) (drop (c.loop-at.at + 1) c.args.bundles.now) ≡ 0 =
      sym (ap (count_by (is_bundle w.in-Some.bundle)) rest) ∙ sym w.link_count.ensures ∙ w.if-link_count-eq0.true in
      let last = places_last c.args.ports c.args.bundles.now c.loop-at.at c.index-bundles-at.result w.in-Some.bundle (omega arith) c.index-bundles-at.is w.in-Some.is none in
      adds_share c.loop-at.places w.places_of_bundle-places.result c.match-bundle.places _ _ _ _ w.places_of_bundle-places.ensures last c.loop-at.invariant w.places-is
  | in-Some+else-link_count-eq0 w ↦
      let rest = take_rest c.args.bundles.now (c.loop-at.at + 1) in
      let more = λ (none : count_by (is_bundle w.in-Some.bundle) (drop (c.loop-at.at + 1) c.args.bundles.now) ≡ 0).
      w.if-link_count-eq0.false (w.link_count.ensures ∙ ap (count_by (is_bundle w.in-Some.bundle)) rest ∙ none) in
      let earlier = places_earlier c.args.ports c.args.bundles.now c.loop-at.at c.index-bundles-at.result w.in-Some.bundle (omega arith) c.index-bundles-at.is w.in-Some.is more in
      omega (arith, c.loop-at.invariant)
]
