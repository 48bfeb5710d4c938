use Rattle.std.proofs.Common.{◌≡◌, ◌⊎◌, ◌++◌, ◌∷◌, [], List, length, refl, ap, sym, subst, ◌∙◌, arith}
use Rattle.std.specs.Prelude.{Ok, Err}
use Rattle.std.specs.Vec.Iter.{into_iter_items}
use Rattle.rsl_shard.specs.declared.moved.Move.{Move}
use Rattle.rld_books.specs.Server.{ServerSeen}
use Rattle.std.specs.Arc.{arc_value}
use Rattle.rsl_accounts.specs.Configuration.{Configuration}
use Rattle.rld_store.specs.Recorded.{is_last}
use Rattle.rld_store.specs.Standing.{StandsFor}
use Rattle.rld_store.specs.declared.store.End.TheVariants.{Settled}
use Rattle.rld_store.specs.Stored.{is_unsynced}
use Rattle.rld_store.specs.declared.fault.RecordFault.TheVariants.{Failed, Ended}
use Rattle.rld_lives.specs.Leaving.{batches_of}
use Rattle.rld_lives.specs.Life.{AreOutcomes, Outcome, has_ended}
use Rattle.rld_lives.proofs.Lasting.{comes, ended_more, next_ended, next_failed, next_recorded, none_next}
use Rattle.rld_lives.specs.declared.living.Step.{Step}
use Rattle.rld_lives.proofs.Leaving.{GoesOn, goes_on, goes_recorded, goes_unrecorded, stands_after}
use Rattle.rld_lives.proofs.living.live.Goals as goal

none_of : (left : List Step) → length left ≡ 0 → length (batches_of left) ≡ 0
none_of [] none = refl
none_of (step ∷ left) none = absurd (omega (arith, none))

pub loop-step-init : goal.loop-step-init
loop-step-init g c =
    let gives = c.into_iter-step-iterator.ensures.into_iter_gives in
    let left : List Step = into_iter_items c.into_iter-step-iterator.result in
    let long : length left ≡ length c.args.steps.items = ap length gives.0 in
    let batches : List (List Move) = batches_of c.args.steps.items in
    let all : batches ≡ batches_of left = ap batches_of (sym gives.0) in
    record {
      can_next = tt;
      is_finite = tt;
      len = omega (arith, gives.1, long, c.args.steps.ok);
      room = omega (arith, long, c.in_ok-outcomes.ensures.capacity, c.in_ok-outcomes.ensures.len, c.args.steps.ok);
      told = λ told. told;
      out = λ later are. subst (λ (o : List Outcome). AreOutcomes c.args.store.now.books batches (o ++ later)) (sym c.in_ok-outcomes.ensures.items)
          (subst (λ (b : List (List Move)). AreOutcomes c.args.store.now.books b later) (sym all) are);
      over = λ none. (none, ap has_ended c.in_ok-outcomes.ensures.items);
      same = refl;
      goes = λ told opening history so. record {
        so_far = history;
        unanswered = [];
        stands = so;
        come = comes history batches c.in_ok-outcomes.outcomes.items (batches_of left) c.in_ok-outcomes.ensures.items all;
      };
    }

pub loop-step-preserved-in-Ok : goal.loop-step-preserved-in-Ok
loop-step-preserved-in-Ok g c =
    let now = c.loop-step.invariant in
    let batches : List (List Move) = batches_of c.args.steps.items in
    let outcomes : List Outcome = c.loop-step.outcomes.items in
    let more : List Outcome = c.push_reserved.new.self.items in
    let batch : List Move = c.in-Batch.batch.items in
    let rest : List (List Move) = batches_of (into_iter_items c.next.new.self) in
    let next : batches_of (into_iter_items c.loop-step.step-iterator) ≡ batch ∷ rest =
    ap batches_of c.in-Some.ensures.steps.0 ∙ ap (λ (step : Step). batches_of (step ∷ into_iter_items c.next.new.self)) c.in-Batch.is in
    let long = ap length c.in-Some.ensures.steps.0 in
    let was = c.loop-step.store in
    let store = c.commit.new.self in
    record {
      can_next = tt;
      is_finite = tt;
      len = omega (arith, now.len, c.in-Some.ensures.steps.1, long);
      room = omega (arith, now.room, long, c.push_reserved.ensures.len, c.push_reserved.ensures.capacity);
      told = λ told. now.told (c.commit.ensures.told told);
      out = next_recorded c.args.store.now.books was.books store.books batches rest batch outcomes more
          (subst (λ (b : List (List Move)). (later : List Outcome) → AreOutcomes was.books b later → AreOutcomes c.args.store.now.books batches (outcomes ++ later)) next now.out)
          c.in-Ok.recorded c.push_reserved.ensures.items c.in-Ok.ensures.decisions c.in-Ok.ensures.books;
      over = λ none. (c.commit.ensures.over (now.over none).0 ∙ ap is_unsynced c.in-Ok.is, ended_more outcomes more (Ok c.in-Ok.recorded) c.push_reserved.ensures.items (now.over none).1);
      same = c.commit.ensures.config ∙ now.same;
      goes = λ told opening history so.
          goes_recorded (arc_value c.args.store.now.config) opening g.L.Log.tears was.end store.end (g.L.Log.seen was.log) (g.L.Log.seen store.log) (g.L.Log.may_leave was.log) (g.L.Log.may_leave store.log) was.whole store.whole
          was.books store.books history batches outcomes more batch rest
          (subst (λ (b : List (List Move)). GoesOn (arc_value c.args.store.now.config) opening g.L.Log.tears was.end (g.L.Log.seen was.log) (g.L.Log.may_leave was.log) was.whole was.books history batches outcomes b) next
          (now.goes (c.commit.ensures.told told) opening history so))
          c.in-Ok.recorded c.push_reserved.ensures.items (subst (λ (x : Configuration). (some unanswered : List Move) → StandsFor x opening g.L.Log.tears was.end (g.L.Log.seen was.log) (g.L.Log.may_leave was.log) was.whole was.books some unanswered
          → StandsFor x opening g.L.Log.tears Settled (g.L.Log.seen store.log) (g.L.Log.may_leave store.log) store.whole store.books (some ++ batch) batch) (ap arc_value now.same) (c.in-Ok.ensures.recorded told opening)) c.in-Ok.ensures.settled;
    }

pub loop-step-preserved : goal.loop-step-preserved
loop-step-preserved g c =
    let now = c.loop-step.invariant in
    let batches : List (List Move) = batches_of c.args.steps.items in
    let outcomes : List Outcome = c.loop-step.outcomes.items in
    let more : List Outcome = c.push_reserved-in-Failed.new.self.items in
    let batch : List Move = c.in-Batch.batch.items in
    let rest : List (List Move) = batches_of (into_iter_items c.next.new.self) in
    let next : batches_of (into_iter_items c.loop-step.step-iterator) ≡ batch ∷ rest =
    ap batches_of c.in-Some.ensures.steps.0 ∙ ap (λ (step : Step). batches_of (step ∷ into_iter_items c.next.new.self)) c.in-Batch.is in
    let long = ap length c.in-Some.ensures.steps.0 in
    let was = c.loop-step.store in
    let store = c.commit.new.self in
    record {
      can_next = tt;
      is_finite = tt;
      len = omega (arith, now.len, c.in-Some.ensures.steps.1, long);
      room = omega (arith, now.room, long, c.push_reserved-in-Failed.ensures.len, c.push_reserved-in-Failed.ensures.capacity);
      told = λ told. now.told (c.commit.ensures.told told);
      out = next_failed c.args.store.now.books was.books store.books batches rest batch outcomes more
          (subst (λ (b : List (List Move)). (later : List Outcome) → AreOutcomes was.books b later → AreOutcomes c.args.store.now.books batches (outcomes ++ later)) next now.out)
          c.push_reserved-in-Failed.ensures.items c.in-Err.ensures.err;
      over = λ none. (
        c.commit.ensures.over (now.over none).0 ∙ ap is_unsynced c.in-Err.is ∙ ap is_last (sym c.from.ensures ∙ c.in-Failed.is),
        ended_more outcomes more (Err Failed) c.push_reserved-in-Failed.ensures.items (now.over none).1,
      );
      same = c.commit.ensures.config ∙ now.same;
      goes = λ told opening history so.
          goes_unrecorded (arc_value c.args.store.now.config) opening g.L.Log.tears was.end store.end (g.L.Log.seen was.log) (g.L.Log.seen store.log) (g.L.Log.may_leave was.log) (g.L.Log.may_leave store.log) was.whole store.whole
          was.books store.books history batches outcomes more batch rest
          (subst (λ (b : List (List Move)). GoesOn (arc_value c.args.store.now.config) opening g.L.Log.tears was.end (g.L.Log.seen was.log) (g.L.Log.may_leave was.log) was.whole was.books history batches outcomes b) next
          (now.goes (c.commit.ensures.told told) opening history so))
          Failed c.push_reserved-in-Failed.ensures.items (subst (λ (x : Configuration). (some unanswered : List Move) → StandsFor x opening g.L.Log.tears was.end (g.L.Log.seen was.log) (g.L.Log.may_leave was.log) was.whole was.books some unanswered
          → StandsFor x opening g.L.Log.tears store.end (g.L.Log.seen store.log) (g.L.Log.may_leave store.log) store.whole store.books some unanswered ⊎ StandsFor x opening g.L.Log.tears store.end (g.L.Log.seen store.log) (g.L.Log.may_leave store.log) store.whole store.books some batch) (ap arc_value now.same) (c.in-Err.ensures.left told opening));
    }

pub loop-step-preserved-in-Roll : goal.loop-step-preserved-in-Roll
loop-step-preserved-in-Roll g c =
    let now = c.loop-step.invariant in
    let batches : List (List Move) = batches_of c.args.steps.items in
    let outcomes : List Outcome = c.loop-step.outcomes.items in
    let rest : List (List Move) = batches_of (into_iter_items c.next.new.self) in
    let next : batches_of (into_iter_items c.loop-step.step-iterator) ≡ rest =
    ap batches_of c.in-Some.ensures.steps.0 ∙ ap (λ (step : Step). batches_of (step ∷ into_iter_items c.next.new.self)) c.in-Roll.is in
    let long = ap length c.in-Some.ensures.steps.0 in
    let was = c.loop-step.store in
    let store = c.roll_on.new.store in
    record {
      can_next = tt;
      is_finite = tt;
      len = omega (arith, now.len, c.in-Some.ensures.steps.1, long);
      room = omega (arith, now.room, long);
      told = λ told. now.told (c.roll_on.ensures.told told);
      out = λ later are. now.out later (subst (λ (b : List (List Move)). AreOutcomes was.books b later) (sym next) (subst (λ (b : ServerSeen). AreOutcomes b rest later) c.roll_on.ensures.books are));
      over = λ none. (c.roll_on.ensures.over ∙ (now.over none).0, (now.over none).1);
      same = c.roll_on.ensures.config ∙ now.same;
      goes = λ told opening history so.
          goes_on (arc_value c.args.store.now.config) opening g.L.Log.tears was.end store.end (g.L.Log.seen was.log) (g.L.Log.seen store.log) (g.L.Log.may_leave was.log) (g.L.Log.may_leave store.log) was.whole store.whole
          was.books store.books history batches outcomes rest (subst (λ (x : Configuration). (some unanswered : List Move) → StandsFor x opening g.L.Log.tears was.end (g.L.Log.seen was.log) (g.L.Log.may_leave was.log) was.whole was.books some unanswered
          → StandsFor x opening g.L.Log.tears store.end (g.L.Log.seen store.log) (g.L.Log.may_leave store.log) store.whole store.books some unanswered ⊎ StandsFor x opening g.L.Log.tears store.end (g.L.Log.seen store.log) (g.L.Log.may_leave store.log) store.whole store.books some []) (ap arc_value now.same) (c.roll_on.ensures.stands told opening))
          (subst (λ (b : List (List Move)). GoesOn (arc_value c.args.store.now.config) opening g.L.Log.tears was.end (g.L.Log.seen was.log) (g.L.Log.may_leave was.log) was.whole was.books history batches outcomes b) next
          (now.goes (c.roll_on.ensures.told told) opening history so));
    }

pub returns-in-Ended-clause-outcomes : goal.returns-in-Ended-clause-outcomes
returns-in-Ended-clause-outcomes g c =
    let batches : List (List Move) = batches_of c.args.steps.items in
    let outcomes : List Outcome = c.loop-step.outcomes.items in
    let next = ap batches_of c.in-Some.ensures.steps.0 ∙ ap (λ (step : Step). batches_of (step ∷ into_iter_items c.next.new.self)) c.in-Batch.is in
    next_ended c.args.store.now.books c.loop-step.store.books c.commit.new.self.books batches (batches_of (into_iter_items c.next.new.self)) c.in-Batch.batch.items outcomes c.push_reserved-in-Ended.new.self.items
    (subst (λ (b : List (List Move)). (later : List Outcome) → AreOutcomes c.loop-step.store.books b later → AreOutcomes c.args.store.now.books batches (outcomes ++ later)) next c.loop-step.invariant.out)
    c.push_reserved-in-Ended.ensures.items

pub returns-in-Ended-clause-lived : goal.returns-in-Ended-clause-lived
returns-in-Ended-clause-lived g c = λ told opening history so.
    let batches : List (List Move) = batches_of c.args.steps.items in
    let outcomes : List Outcome = c.loop-step.outcomes.items in
    let more : List Outcome = c.push_reserved-in-Ended.new.self.items in
    let batch : List Move = c.in-Batch.batch.items in
    let rest : List (List Move) = batches_of (into_iter_items c.next.new.self) in
    let next : batches_of (into_iter_items c.loop-step.step-iterator) ≡ batch ∷ rest =
    ap batches_of c.in-Some.ensures.steps.0 ∙ ap (λ (step : Step). batches_of (step ∷ into_iter_items c.next.new.self)) c.in-Batch.is in
    let was = c.loop-step.store in
    let store = c.commit.new.self in
    let out : AreOutcomes c.args.store.now.books batches more = next_ended c.args.store.now.books was.books store.books batches rest batch outcomes more
    (subst (λ (b : List (List Move)). (later : List Outcome) → AreOutcomes was.books b later → AreOutcomes c.args.store.now.books batches (outcomes ++ later)) next c.loop-step.invariant.out)
    c.push_reserved-in-Ended.ensures.items in
    stands_after (arc_value c.args.store.now.config) opening g.L.Log.tears store.end (g.L.Log.seen store.log) (g.L.Log.may_leave store.log) store.whole store.books history batches more rest
    (goes_unrecorded (arc_value c.args.store.now.config) opening g.L.Log.tears was.end store.end (g.L.Log.seen was.log) (g.L.Log.seen store.log) (g.L.Log.may_leave was.log) (g.L.Log.may_leave store.log) was.whole store.whole
    was.books store.books history batches outcomes more batch rest
    (subst (λ (b : List (List Move)). GoesOn (arc_value c.args.store.now.config) opening g.L.Log.tears was.end (g.L.Log.seen was.log) (g.L.Log.may_leave was.log) was.whole was.books history batches outcomes b) next
    (c.loop-step.invariant.goes (c.commit.ensures.told told) opening history so))
    Ended c.push_reserved-in-Ended.ensures.items (subst (λ (x : Configuration). (some unanswered : List Move) → StandsFor x opening g.L.Log.tears was.end (g.L.Log.seen was.log) (g.L.Log.may_leave was.log) was.whole was.books some unanswered
    → StandsFor x opening g.L.Log.tears store.end (g.L.Log.seen store.log) (g.L.Log.may_leave store.log) store.whole store.books some unanswered ⊎ StandsFor x opening g.L.Log.tears store.end (g.L.Log.seen store.log) (g.L.Log.may_leave store.log) store.whole store.books some batch) (ap arc_value c.loop-step.invariant.same) (c.in-Err.ensures.left told opening)))
    (subst (λ (s : ServerSeen). AreOutcomes s batches more) so.replayed out)

pub returns-in-Ended-clause-over : goal.returns-in-Ended-clause-over
returns-in-Ended-clause-over g c = λ none.
    let now = c.loop-step.invariant.over none in
    c.commit.ensures.over now.0 ∙ ap is_unsynced c.in-Err.is ∙ ap is_last (sym c.from.ensures ∙ c.in-Ended.is)
    ∙ sym (ended_more c.loop-step.outcomes.items c.push_reserved-in-Ended.new.self.items (Err Ended) c.push_reserved-in-Ended.ensures.items now.1)

pub returns-clause-over : goal.returns-clause-over
returns-clause-over g c = λ none. (c.loop-step.invariant.over none).0 ∙ sym (c.loop-step.invariant.over none).1

pub returns-clause-outcomes : goal.returns-clause-outcomes
returns-clause-outcomes g c =
    none_next c.args.store.now.books c.loop-step.store.books (batches_of c.args.steps.items) (batches_of (into_iter_items c.loop-step.step-iterator)) c.loop-step.outcomes.items c.loop-step.invariant.out
    (none_of (into_iter_items c.loop-step.step-iterator) (omega (arith, c.loop-step.invariant.len, c.in-None.ensures.steps.0)))

pub returns-clause-lived : goal.returns-clause-lived
returns-clause-lived g c = λ told opening history so.
    let batches : List (List Move) = batches_of c.args.steps.items in
    let outcomes : List Outcome = c.loop-step.outcomes.items in
    let rest : List (List Move) = batches_of (into_iter_items c.loop-step.step-iterator) in
    let store = c.loop-step.store in
    let out : AreOutcomes c.args.store.now.books batches outcomes = none_next c.args.store.now.books store.books batches rest outcomes c.loop-step.invariant.out
    (none_of (into_iter_items c.loop-step.step-iterator) (omega (arith, c.loop-step.invariant.len, c.in-None.ensures.steps.0))) in
    stands_after (arc_value c.args.store.now.config) opening g.L.Log.tears store.end (g.L.Log.seen store.log) (g.L.Log.may_leave store.log) store.whole store.books history batches outcomes rest
    (c.loop-step.invariant.goes told opening history so)
    (subst (λ (s : ServerSeen). AreOutcomes s batches outcomes) so.replayed out)
