use Rattle.std.proofs.Common.{◌≡◌, [], ◌∷◌, ◌++◌, All, List, length, ap, sym, subst, ◌∙◌, arith}
use Rattle.std.specs.Arc.{arc_value}
use Rattle.std.specs.List.{AllByRecursion}
use Rattle.std.specs.Vec.Iter.{into_iter_items}
use Rattle.std.proofs.lemmas.List.{length-map}
use Rattle.std.proofs.lemmas.List.Elements.{recursion_from_All}
use Rattle.rld_store.specs.Premises.{Premise}
use Rattle.rld_lives.specs.Leaving.{IsLeft, OfEach, batches_of}
use Rattle.rld_lives.specs.Planned.{plans_of}
use Rattle.rld_lives.specs.declared.living.Plan.{Plan}
use Rattle.rld_lives.proofs.Planning.{all_before, all_gone, empty, is_last, none_before, none_gone, one_gone, past_more}
use Rattle.rld_lives.proofs.Leaving.{each}
use Rattle.rld_lives.proofs.living.lives.Goals as goal

pub loop-plan-init : goal.loop-plan-init
loop-plan-init g c =
    let gives = c.into_iter-plan-iterator.ensures.into_iter_gives in
    let left : List Plan = into_iter_items c.into_iter-plan-iterator.result in
    let long : length left ≡ length c.args.plans.items = ap length gives.0 in
    record {
      can_next = tt;
      is_finite = tt;
      len = omega (arith, gives.1, long, c.args.plans.ok);
      room = omega (arith, long, c.in-Ok.ensures.capacity, c.in-Ok.ensures.len, c.args.plans.ok);
      place = omega (arith, long, c.in-Ok-with_capacity.ensures.capacity, c.in-Ok-with_capacity.ensures.len, c.args.plans.ok);
      tells = λ gone told. told;
      settled = λ told only. only;
      past = ([], sym gives.0);
      left = λ told earlier last is. absurd {A = OfEach (IsLeft g.L.Log.seen g.L.Log.may_leave last.ending) c.args.logs.older c.args.logs.newest} (none_before earlier left c.args.plans.items last gives.0 is);
      premises = λ premises.
          subst (λ (plans : List Plan). AllByRecursion (λ (plan : Plan). Premise g.L.Log.tears plan.ending) plans) (sym gives.0)
          (recursion_from_All (λ (plan : Plan). Premise g.L.Log.tears plan.ending) c.args.plans.items premises);
      have = λ gone told only premises opening history have.
          none_gone (arc_value c.args.config.now) opening history (plans_of c.args.plans.items) g.L.Log.seen c.in-Ok.told.items (plans_of left) c.args.logs.older c.args.logs.newest c.in-Ok.ensures.items (ap plans_of (sym gives.0)) have;
    }

pub loop-plan-preserved : goal.loop-plan-preserved
loop-plan-preserved g c =
    let now = c.loop-plan.invariant in
    let rest : List Plan = into_iter_items c.next.new.self in
    let next : into_iter_items c.loop-plan.plan-iterator ≡ c.in-Some.plan ∷ rest = c.in-Some.ensures.steps.0 in
    let long = ap length next in
    let one = c.live_over-one.result in
    let all : All (λ (plan : Plan). Premise g.L.Log.tears plan.ending) c.args.plans.items → AllByRecursion (λ (plan : Plan). Premise g.L.Log.tears plan.ending) (c.in-Some.plan ∷ rest) = λ premises.
    subst (λ (plans : List Plan). AllByRecursion (λ (plan : Plan). Premise g.L.Log.tears plan.ending) plans) next (now.premises premises) in
    let before = all_before g.L.Log.tells c.loop-plan.gone.items c.push_reserved-in-loop-plan.new.self.items one.gone c.push_reserved-in-loop-plan.ensures.items in
    record {
      can_next = tt;
      is_finite = tt;
      len = omega (arith, now.len, c.in-Some.ensures.steps.1, long);
      room = omega (arith, now.room, long, c.push_reserved.ensures.len, c.push_reserved.ensures.capacity);
      place = omega (arith, now.place, long, c.push_reserved-in-loop-plan.ensures.len, c.push_reserved-in-loop-plan.ensures.capacity);
      tells = λ gone told. now.tells (before gone).0 (c.live_over-one.ensures.told (before gone).1 told);
      settled = λ told only. each _ _ (λ log left. left.settled) one.logs.older one.logs.newest (c.live_over-one.ensures.are_left told);
      past = (now.past.0 ++ c.in-Some.plan ∷ [], past_more c.args.plans.items now.past.0 (into_iter_items c.loop-plan.plan-iterator) rest c.in-Some.plan now.past.1 next);
      left = λ told earlier last is.
          let same : last ≡ c.in-Some.plan = is_last c.args.plans.items now.past.0 (into_iter_items c.loop-plan.plan-iterator) rest c.in-Some.plan now.past.1 next earlier last is in
          subst (λ (plan : Plan). OfEach (IsLeft g.L.Log.seen g.L.Log.may_leave plan.ending) one.logs.older one.logs.newest) (sym same) (c.live_over-one.ensures.are_left told);
      premises = λ premises. (all premises).1;
      have = λ gone told only premises opening history have.
          let was = c.live_over-one.ensures.told (before gone).1 told in
          let so = now.have (before gone).0 was only premises opening history have in
          one_gone (arc_value c.args.config.now) opening history (plans_of c.args.plans.items) g.L.Log.seen c.loop-plan.told.items c.push_reserved.new.self.items one.told (plans_of (into_iter_items c.loop-plan.plan-iterator)) (plans_of rest)
          (batches_of c.in-Some.plan.steps.items) c.loop-plan.logs.older one.logs.older c.loop-plan.logs.newest one.logs.newest (ap plans_of next) c.push_reserved.ensures.items so
          (c.live_over-one.ensures.lived (before gone).1 told (now.settled was only) (all premises).0 opening so.mid so.have);
    }

pub returns-clause-lived : goal.returns-clause-lived
returns-clause-lived g c = λ gone told only premises opening history have.
    let rest : List Plan = into_iter_items c.loop-plan.plan-iterator in
    let none : length (plans_of rest) ≡ 0 = length-map rest (λ (plan : Plan). batches_of plan.steps.items) ∙ (omega (arith, c.loop-plan.invariant.len, c.in-None.ensures.steps.0)) in
    all_gone (arc_value c.args.config.now) opening history (plans_of c.args.plans.items) g.L.Log.seen c.loop-plan.told.items (plans_of rest) c.loop-plan.logs.older c.loop-plan.logs.newest none (c.loop-plan.invariant.have gone told only premises opening history have)

pub returns-clause-told : goal.returns-clause-told
returns-clause-told g c = λ gone told. c.loop-plan.invariant.tells gone told

pub returns-clause-settled : goal.returns-clause-settled
returns-clause-settled g c = λ told only. c.loop-plan.invariant.settled told only

pub returns-clause-are_left : goal.returns-clause-are_left
returns-clause-are_left g c = λ told earlier last is.
    let rest : List Plan = into_iter_items c.loop-plan.plan-iterator in
    let none : length rest ≡ 0 = omega (arith, c.loop-plan.invariant.len, c.in-None.ensures.steps.0) in
    c.loop-plan.invariant.left told earlier last (is ∙ ap (λ (l : List Plan). earlier ++ last ∷ l) (sym (empty rest none)))
