-- The kept asks and stops of a past, its accept number and its over count, once one more event has come.
use Rattle.std.proofs.Common.{◌≡◌, ℕ, ◌+◌, ◌-◌, ◌^◌, max, min, List, [], ◌∷◌, ◌++◌, map, take, Bool, true, false, cond, ◌||◌, refl, ap, sym, ◌∙◌, arith}
use Rattle.std.specs.Prelude.{Option, Some, None, is_some, count_by}
use Rattle.std.specs.List.{cons_option, take-map}
use Rattle.std.specs.Option.{option_map}
use Rattle.std.proofs.lemmas.List.Sums.{sum_by-cons}
use Rattle.rsl_event.specs.declared.event.Act.{Act}
use Rattle.rsl_event.specs.declared.event.Act.TheVariants.{Ask, Alive, Stop, Sweep, Tick}
use Rattle.rsl_event.specs.declared.event.Decision.{Decision}
use Rattle.rsl_event.specs.declared.event.Key.{Key}
use Rattle.rsl_event.specs.declared.nas.Nas.{Nas}
use Rattle.rsl_session.specs.declared.past_event.PastEvent.{PastEvent}
use Rattle.rsl_session.specs.declared.outcome.Outcome.{Outcome}
use Rattle.rsl_session.specs.declared.kept.KeptAsk.{KeptAsk}
use Rattle.rsl_session.specs.declared.kept.KeptStop.{KeptStop}
use Rattle.rsl_session.specs.Past.{Past}
use Rattle.rsl_session.specs.Clock.{clock}
use Rattle.rsl_session.specs.Link.{number_of}
use Rattle.rsl_session.specs.Sweep.{swept_in, voids}
use Rattle.rsl_session.specs.Ask.{KEPT_ASKS, accepts, fresh_asks, fresh_decision, kept_ask}
use Rattle.rsl_session.specs.Closed.{KEPT_STOPS, kept_stop, stops}
use Rattle.rsl_session.specs.Alive.{is_over, over_count}
use Rattle.rsl_session.specs.BookStep.{sweep_ask, sweep_stop}
use Rattle.rsl_session.proofs.BookLists.{map_fixed, map_cons_option, or_false, take_push}
use Rattle.rsl_session.proofs.BookViews.{did}

-- what came from an access server is voided among acts, or by the one after them
swept_more : (since : List (ℕ × Act)) (act : ℕ × Act) (nas : Nas) (at : ℕ)
    → swept_in (since ++ act ∷ []) nas at ≡ (swept_in since nas at || voids nas at act.0 act.1)
unfolding swept_in
swept_more [] act nas at = or_false (voids nas at act.0 act.1)
swept_more (one ∷ since) act nas at =
    rw (swept_more since act nas at) (by_cases (voids nas at one.0 one.1) (swept_in since nas at) (voids nas at act.0 act.1)) where
      by_cases : (here a b : Bool) → (here || (a || b)) ≡ ((here || a) || b)
      by_cases true a b = refl
      by_cases false a b = refl

-- a kept ask, and a kept stop, after an act
mark_ask : ℕ → Act → KeptAsk → KeptAsk
mark_ask now act kept = record kept { swept = kept.swept || voids kept.nas kept.at now act }

mark_stop : ℕ → Act → KeptStop → KeptStop
mark_stop now act kept = record kept { swept = kept.swept || voids kept.session.nas kept.at now act }

asks_marked : (since : List (ℕ × Act)) (now : ℕ) (act : Act) (past : Past)
    → fresh_asks (since ++ (now, act) ∷ []) past ≡ map (mark_ask now act) (fresh_asks since past)
unfolding fresh_asks mark_ask
asks_marked since now act [] = refl
asks_marked since now act (one ∷ past) =
    rw (asks_marked ((clock (one ∷ past), one.event.act) ∷ since) now act past, here one.event.act (fresh_decision one.outcome))
    (map_cons_option (mark_ask now act) (kept_ask (clock (one ∷ past)) since one.event.act (fresh_decision one.outcome)) (fresh_asks ((clock (one ∷ past), one.event.act) ∷ since) past)) where
      here : (own : Act) (decided : Option Decision)
          → kept_ask (clock (one ∷ past))
          (since ++ (now, act) ∷ []) own decided ≡ option_map (mark_ask now act)
          (kept_ask (clock (one ∷ past)) since own decided)
      here (Ask key nas station) (Some decision) = rw (swept_more since (now, act) nas (clock (one ∷ past))) refl
      here (Ask key nas station) None = refl
      here (Alive nas session bundle class station) decided = refl
      here (Stop nas session) decided = refl
      here (Sweep nas delay) decided = refl
      here Tick decided = refl

stops_marked : (since : List (ℕ × Act)) (now : ℕ) (act : Act) (past : Past)
    → stops (since ++ (now, act) ∷ []) past ≡ map (mark_stop now act) (stops since past)
unfolding stops mark_stop
stops_marked since now act [] = refl
stops_marked since now act (one ∷ past) =
    rw (stops_marked ((clock (one ∷ past), one.event.act) ∷ since) now act past, here one.event.act)
    (map_cons_option (mark_stop now act) (kept_stop (clock (one ∷ past)) since one.event.act) (stops ((clock (one ∷ past), one.event.act) ∷ since) past)) where
      here : (own : Act)
          → kept_stop (clock (one ∷ past)) (since ++ (now, act) ∷ []) own ≡ option_map (mark_stop now act)
          (kept_stop (clock (one ∷ past)) since own)
      here (Stop nas session) = rw (swept_more since (now, act) nas (clock (one ∷ past))) refl
      here (Ask key nas station) = refl
      here (Alive nas session bundle class station) = refl
      here (Sweep nas delay) = refl
      here Tick = refl

-- whether an act is a sweep
abbrev pub is_sweep : Act → Bool
is_sweep (Sweep nas delay) = true
is_sweep act = false

unswept : (act : Act) (nas : Nas) (at now : ℕ) → is_sweep act ≡ false → voids nas at now act ≡ false
unswept (Ask key other station) nas at now unlike = refl
unswept (Alive other session bundle class station) nas at now unlike = refl
unswept (Stop other session) nas at now unlike = refl
unswept (Sweep other delay) nas at now unlike = cc
unswept Tick nas at now unlike = refl

-- what is no sweep leaves them as they were
asks_unmarked : (now : ℕ) (act : Act) (past : Past) → is_sweep act ≡ false
    → fresh_asks ((now, act) ∷ []) past ≡ fresh_asks [] past
unfolding mark_ask
asks_unmarked now act past other =
    asks_marked [] now act past
    ∙ map_fixed (mark_ask now act) (λ kept. rw (unswept act kept.nas kept.at now other, or_false kept.swept) refl) (fresh_asks [] past)

stops_unmarked : (now : ℕ) (act : Act) (past : Past) → is_sweep act ≡ false
    → stops ((now, act) ∷ []) past ≡ stops [] past
unfolding mark_stop
stops_unmarked now act past other =
    stops_marked [] now act past
    ∙ map_fixed (mark_stop now act) (λ kept. rw (unswept act kept.session.nas kept.at now other, or_false kept.swept) refl) (stops [] past)

-- an event that is no fresh ask, and one that is
pub asks_same : (entry : PastEvent) (past : Past) → is_sweep entry.event.act ≡ false
    → fresh_decision entry.outcome ≡ None
    → take KEPT_ASKS (fresh_asks [] (entry ∷ past)) ≡ take KEPT_ASKS (fresh_asks [] past)
unfolding fresh_asks
asks_same entry past other none =
    ap (take KEPT_ASKS)
    (ap (λ o. cons_option (kept_ask (clock (entry ∷ past)) [] entry.event.act o) (fresh_asks ((clock (entry ∷ past), entry.event.act) ∷ []) past)) none
    ∙ by_act entry.event.act ∙ asks_unmarked (clock (entry ∷ past)) entry.event.act past other) where
      by_act : (act : Act) → cons_option (kept_ask (clock (entry ∷ past)) [] act None)
          (fresh_asks ((clock (entry ∷ past), entry.event.act) ∷ []) past) ≡ fresh_asks ((clock (entry ∷ past), entry.event.act) ∷ []) past
      by_act (Ask key nas station) = refl
      by_act (Alive nas session bundle class station) = refl
      by_act (Stop nas session) = refl
      by_act (Sweep nas delay) = refl
      by_act Tick = refl

pub asks_more : (moment : ℕ) (outcome : Outcome) (past : Past) (key : Key) (nas : Nas) (station : Option (List ℕ)) (decision : Decision)
    → fresh_decision outcome ≡ Some decision
    → take KEPT_ASKS (record { key = key; nas = nas; decision = decision; at = max (clock past) moment; swept = false } ∷ take KEPT_ASKS (fresh_asks [] past))
    ≡ take KEPT_ASKS (fresh_asks [] (did (record { moment = moment; act = Ask key nas station }) outcome ∷ past))
unfolding fresh_asks clock swept_in
asks_more moment outcome past key nas station decision some =
    let new : KeptAsk = record { key = key; nas = nas; decision = decision; at = max (clock past) moment; swept = false } in
    take_push 7 new (fresh_asks [] past) ∙ rw (some, asks_unmarked (max (clock past) moment) (Ask key nas station) past refl) refl

pub stops_same : (entry : PastEvent) (past : Past) → is_sweep entry.event.act ≡ false
    → kept_stop (clock (entry ∷ past)) [] entry.event.act ≡ None
    → take KEPT_STOPS (stops [] (entry ∷ past)) ≡ take KEPT_STOPS (stops [] past)
unfolding stops
stops_same entry past other none = rw (none, stops_unmarked (clock (entry ∷ past)) entry.event.act past other) refl

pub stops_more : (moment : ℕ) (outcome : Outcome) (past : Past) (nas : Nas) (id : List ℕ)
    → take KEPT_STOPS (record { session = record { nas = nas; id = id }; at = max (clock past) moment; swept = false } ∷ take KEPT_STOPS (stops [] past))
    ≡ take KEPT_STOPS (stops [] (did (record { moment = moment; act = Stop nas id }) outcome ∷ past))
unfolding stops clock swept_in
stops_more moment outcome past nas id =
    let new : KeptStop = record { session = record { nas = nas; id = id }; at = max (clock past) moment; swept = false } in
    take_push 15 new (stops [] past) ∙ rw (stops_unmarked (max (clock past) moment) (Stop nas id) past refl) refl

-- a sweep marks them
pub asks_swept : (moment : ℕ) (outcome : Outcome) (past : Past) (nas : Nas) (delay : ℕ)
    → map (sweep_ask nas delay (max (clock past) moment))
    (take KEPT_ASKS (fresh_asks [] past)) ≡ take KEPT_ASKS (fresh_asks [] (did (record { moment = moment; act = Sweep nas delay }) outcome ∷ past))
unfolding fresh_asks clock sweep_ask mark_ask
asks_swept moment outcome past nas delay =
    let now : ℕ = max (clock past) moment in
    sym (take-map (sweep_ask nas delay now) KEPT_ASKS (fresh_asks [] past)) ∙ ap (take KEPT_ASKS) (sym (asks_marked [] now (Sweep nas delay) past))

pub stops_swept : (moment : ℕ) (outcome : Outcome) (past : Past) (nas : Nas) (delay : ℕ)
    → map (sweep_stop nas delay (max (clock past) moment))
    (take KEPT_STOPS (stops [] past)) ≡ take KEPT_STOPS (stops [] (did (record { moment = moment; act = Sweep nas delay }) outcome ∷ past))
unfolding stops clock sweep_stop mark_stop
stops_swept moment outcome past nas delay =
    let now : ℕ = max (clock past) moment in
    sym (take-map (sweep_stop nas delay now) KEPT_STOPS (stops [] past)) ∙ ap (take KEPT_STOPS) (sym (stops_marked [] now (Sweep nas delay) past))

-- the accept number
pub accepts_same : (entry : PastEvent) (past : Past) → is_some (number_of entry.outcome) ≡ false
    → accepts (entry ∷ past) ≡ accepts past
unfolding accepts
accepts_same entry past none = sum_by-cons (λ (x : PastEvent). cond (is_some (number_of x.outcome)) 1 0) entry past ∙ rw none (omega arith)

pub accepts_more : (entry : PastEvent) (past : Past) → is_some (number_of entry.outcome) ≡ true
    → accepts (entry ∷ past) ≡ accepts past + 1
unfolding accepts
accepts_more entry past some = sum_by-cons (λ (x : PastEvent). cond (is_some (number_of x.outcome)) 1 0) entry past ∙ rw some (omega arith)

-- the over count
pub over_same : (entry : PastEvent) (past : Past) → is_over entry.outcome ≡ false
    → over_count (entry ∷ past) ≡ over_count past
unfolding over_count
over_same entry past none = ap (λ n. min n (2 ^ 64 - 1)) (sum_by-cons (λ (x : PastEvent). cond (is_over x.outcome) 1 0) entry past ∙ rw none (omega arith))

pub over_more : (entry : PastEvent) (past : Past) → is_over entry.outcome ≡ true
    → over_count (entry ∷ past) ≡ min (over_count past + 1) (2 ^ 64 - 1)
unfolding over_count
over_more entry past some =
    let count = count_by (λ (x : PastEvent). is_over x.outcome) past in
    let more : count_by (λ (x : PastEvent). is_over x.outcome) (entry ∷ past) ≡ 1 + count =
    sum_by-cons (λ (x : PastEvent). cond (is_over x.outcome) 1 0) entry past ∙ rw some refl in
    rw more (omega arith)
