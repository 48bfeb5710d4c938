-- Where no event after a tick has a lower moment, each of them does what it did without the tick,
-- up to the names of links. So decisions and places stay as they were.
use Rattle.std.proofs.Common.{◌≡◌, ℕ, zero, suc, ◌-◌, ◌^◌, ◌<◌, ◌≤◌, List, [], ◌∷◌, ◌++◌, length, take, drop, Bool, true, false, cond, refl, ap, sym, ◌∙◌, arith}
use Rattle.std.specs.Prelude.{Option, Some, None, nat_lt, insert}
use Rattle.std.specs.List.{AllByRecursion}
use Rattle.std.specs.Option.{option_map}
use Rattle.std.proofs.lemmas.List.{take_at, drop_at, take-append-drop, length-take-le, length-drop}
use Rattle.std.proofs.lemmas.List.Elements.{recursion_from_All}
use Rattle.rsl_accounts.specs.declared.rules.Rules.{Rules}
use Rattle.rsl_event.specs.declared.event.Event.{Event}
use Rattle.rsl_event.specs.declared.event.Act.{Act}
use Rattle.rsl_event.specs.declared.event.Act.TheVariants.{Ask, Alive, Stop, Sweep, Tick}
use Rattle.rsl_event.specs.declared.event.Decision.{Decision}
use Rattle.rsl_event.specs.declared.event.Decision.TheVariants.{Done}
use Rattle.rsl_session.specs.declared.past_event.PastEvent.{PastEvent}
use Rattle.rsl_session.specs.declared.outcome.Outcome.{Outcome}
use Rattle.rsl_session.specs.declared.outcome.Outcome.TheVariants.{Accepted, AcceptedInPlace, Refused, Repeated, Opened, Took, Renewed, Ignored, Over, Passed}
use Rattle.rsl_session.specs.declared.kept.KeptAsk.{KeptAsk}
use Rattle.rsl_session.specs.declared.session.Session.{Session}
use Rattle.rsl_session.specs.Past.{Past}
use Rattle.rsl_session.specs.Places.{places}
use Rattle.rsl_session.specs.Ask.{has_a_place_without, yielding_link, station_link, unfitting_outcome, placed_outcome, returning_outcome, fresh_outcome, accepts, ask_outcome, has_a_place, repeated_ask}
use Rattle.rsl_session.specs.Closed.{is_closed}
use Rattle.rsl_session.specs.Alive.{alive_outcome, has_room, link_of, reservation_of, unbound_outcome}
use Rattle.rsl_session.specs.Rule.{IsRuled, decision_of, decisions, decisions_from, entry_of, outcome_by, outcome_of, past_from, past_of, places_after}
use Rattle.rsl_session.proofs.Callers.{IsRuled-past_of}
use Rattle.rsl_rule.specs.Laws.{EarlyTicksChangeNoDecision}
use Rattle.rsl_rule.proofs.Shift.{shift, shift_outcome, shift_entry, tick_event, tick_entry, after_tick}
use Rattle.rsl_rule.proofs.TickHeld.{AreLater, places-after_tick, has_a_place-after_tick, station_link-after_tick, yielding_link-after_tick, has_a_place_without-after_tick, has_room-after_tick, link_of-after_tick, reservation_of-after_tick}
use Rattle.rsl_rule.proofs.TickKept.{accepts-after_tick, repeated-after_tick, is_closed-after_tick}

module _ (rules : Rules) (moment : ℕ) (older : Past) (ruled : IsRuled rules older) where
  -- a fresh ask to which no link of its station yields does what it did
  placed-after_tick : (newer : Past) → AreLater moment newer → (event : Event) → moment ≤ event.moment
      → placed_outcome rules (after_tick moment older newer) event ≡ shift_outcome (length older) (placed_outcome rules (newer ++ older) event)
  unfolding placed_outcome shift_outcome
  placed-after_tick newer later event at =
      rw (has_a_place-after_tick rules moment older ruled newer later event at, yielding_link-after_tick rules moment older ruled newer later event at)
      (by_place (has_a_place rules (newer ++ older) event) (yielding_link rules (newer ++ older) event)) where
        without : (link : ℕ) (fits : Bool) → cond fits (AcceptedInPlace (accepts (newer ++ older)) (shift (length older) link)) Refused
            ≡ shift_outcome (length older) (cond fits (AcceptedInPlace (accepts (newer ++ older)) link) Refused)
        without link true = refl
        without link false = refl

        unfitting : (found : Option ℕ) → unfitting_outcome rules (after_tick moment older newer) event (option_map (shift (length older)) found)
            ≡ shift_outcome (length older) (unfitting_outcome rules (newer ++ older) event found)
        unfitting None = refl
        unfitting (Some link) =
            rw (has_a_place_without-after_tick rules moment older ruled newer later event at link, accepts-after_tick moment older newer)
            (without link (has_a_place_without rules (newer ++ older) event link))

        by_place : (free : Bool) (found : Option ℕ) → cond free (Accepted (accepts (after_tick moment older newer))) (unfitting_outcome rules (after_tick moment older newer) event (option_map (shift (length older)) found))
            ≡ shift_outcome (length older) (cond free (Accepted (accepts (newer ++ older))) (unfitting_outcome rules (newer ++ older) event found))
        by_place true found = ap Accepted (accepts-after_tick moment older newer)
        by_place false found = unfitting found

  -- each later event does what it did
  outcome-after_tick : (newer : Past) → AreLater moment newer → (event : Event) → moment ≤ event.moment
      → outcome_of rules (after_tick moment older newer) event ≡ shift_outcome (length older) (outcome_of rules (newer ++ older) event)
  unfolding outcome_of fresh_outcome shift_outcome
  outcome-after_tick newer later event at = by_act event.act where
    in_place : (link : ℕ) (fits : Bool) → cond fits (AcceptedInPlace (accepts (newer ++ older)) (shift (length older) link)) (placed_outcome rules (after_tick moment older newer) event)
        ≡ shift_outcome (length older) (cond fits (AcceptedInPlace (accepts (newer ++ older)) link) (placed_outcome rules (newer ++ older) event))
    in_place link true = refl
    in_place link false = placed-after_tick newer later event at

    returning : (found : Option ℕ) → returning_outcome rules (after_tick moment older newer) event (option_map (shift (length older)) found)
        ≡ shift_outcome (length older) (returning_outcome rules (newer ++ older) event found)
    returning None = placed-after_tick newer later event at
    returning (Some link) =
        rw (has_a_place_without-after_tick rules moment older ruled newer later event at link, accepts-after_tick moment older newer)
        (in_place link (has_a_place_without rules (newer ++ older) event link))

    fresh : fresh_outcome rules (after_tick moment older newer) event ≡ shift_outcome (length older) (fresh_outcome rules (newer ++ older) event)
    fresh =
        rw (station_link-after_tick rules moment older ruled newer later event at) (returning (station_link rules (newer ++ older) event))

    numbered : (left : Bool) → cond left (fresh_outcome rules (after_tick moment older newer) event) Refused ≡ shift_outcome (length older) (cond left (fresh_outcome rules (newer ++ older) event) Refused)
    numbered true = fresh
    numbered false = refl

    of_ask : (found : Option KeptAsk) → ask_outcome rules (after_tick moment older newer) event found ≡ shift_outcome (length older) (ask_outcome rules (newer ++ older) event found)
    of_ask (Some ask) = refl
    of_ask None = left (numbered (nat_lt (accepts (newer ++ older)) (2 ^ 64 - 1))) where
      left : cond (nat_lt (accepts (newer ++ older)) (2 ^ 64 - 1)) (fresh_outcome rules (after_tick moment older newer) event) Refused
          ≡ shift_outcome (length older) (ask_outcome rules (newer ++ older) event None) → ask_outcome rules (after_tick moment older newer) event None ≡ shift_outcome (length older) (ask_outcome rules (newer ++ older) event None)
      left is = ap (λ n. cond (nat_lt n (2 ^ 64 - 1)) (fresh_outcome rules (after_tick moment older newer) event) Refused) (accepts-after_tick moment older newer) ∙ is

    opened : (room : Bool) → cond room Opened Over ≡ shift_outcome (length older) (cond room Opened Over)
    opened true = refl
    opened false = refl

    unbound : (found : Option ℕ) → unbound_outcome rules (after_tick moment older newer) event (option_map (shift (length older)) found)
        ≡ shift_outcome (length older) (unbound_outcome rules (newer ++ older) event found)
    unbound (Some link) = refl
    unbound None = rw (has_room-after_tick rules moment older ruled newer later event at) (opened (has_room rules (newer ++ older) event))

    open_or_closed : (closed : Bool) (found : Option ℕ) → cond closed Ignored (unbound_outcome rules (after_tick moment older newer) event (option_map (shift (length older)) found))
        ≡ shift_outcome (length older) (cond closed Ignored (unbound_outcome rules (newer ++ older) event found))
    open_or_closed true found = refl
    open_or_closed false found = unbound found

    of_alive : (session : Session) (class found : Option ℕ) → alive_outcome rules (after_tick moment older newer) event session class (option_map (shift (length older)) found)
        ≡ shift_outcome (length older) (alive_outcome rules (newer ++ older) event session class found)
    of_alive session class (Some link) = refl
    of_alive session class None =
        rw (is_closed-after_tick rules moment older newer later event at session, reservation_of-after_tick rules moment older ruled newer later event at session.nas class)
        (open_or_closed (is_closed rules (newer ++ older) event session) (reservation_of rules (newer ++ older) event session.nas class))

    by_act : (act : Act) → outcome_by rules (after_tick moment older newer) event act ≡ shift_outcome (length older) (outcome_by rules (newer ++ older) event act)
    by_act (Ask key nas station) = rw (repeated-after_tick rules moment older newer later event at key) (of_ask (repeated_ask rules (newer ++ older) event key))
    by_act (Alive nas id bundle class station) =
        let session : Session = record { nas = nas; id = id } in
        rw (link_of-after_tick rules moment older ruled newer later event at session) (of_alive session class (link_of rules (newer ++ older) event session))
    by_act (Stop nas id) = refl
    by_act (Sweep nas delay) = refl
    by_act Tick = refl

decision-shift : (n : ℕ) (outcome : Outcome) → decision_of (shift_outcome n outcome) ≡ decision_of outcome
unfolding shift_outcome
decision-shift n (Accepted number) = refl
decision-shift n (AcceptedInPlace number yielded) = refl
decision-shift n Refused = refl
decision-shift n (Repeated decision) = refl
decision-shift n Opened = refl
decision-shift n (Took taken) = refl
decision-shift n (Renewed renewed) = refl
decision-shift n Ignored = refl
decision-shift n Over = refl
decision-shift n Passed = refl

-- later events
abbrev pub AreEventsLater : ℕ → List Event → Type 0
AreEventsLater moment events = AllByRecursion (λ (event : Event). moment ≤ event.moment) events

entry_later : (rules : Rules) (moment : ℕ) (past newer : Past) → AreLater moment newer → (event : Event) → moment ≤ event.moment → AreLater moment (entry_of rules past event ∷ newer)
unfolding entry_of
entry_later rules moment past newer later event at = (at, later)

module _ (rules : Rules) (moment : ℕ) (older : Past) (ruled : IsRuled rules older) where
  next_entry : (newer : Past) → AreLater moment newer → (event : Event) → moment ≤ event.moment
      → entry_of rules (after_tick moment older newer) event ∷ after_tick moment older newer ≡ after_tick moment older (entry_of rules (newer ++ older) event ∷ newer)
  unfolding after_tick shift_entry entry_of
  next_entry newer later event at =
      made event (outcome_of rules (after_tick moment older newer) event) (shift_outcome (length older) (outcome_of rules (newer ++ older) event)) (after_tick moment older newer)
      (outcome-after_tick rules moment older ruled newer later event at) where
        entry_with : Event → Outcome → PastEvent
        entry_with event outcome = record { event = event; outcome = outcome }

        made : (event : Event) (a b : Outcome) (past : Past) → a ≡ b → entry_with event a ∷ past ≡ entry_with event b ∷ past
        made event a b past same = ap (λ outcome. entry_with event outcome ∷ past) same

  decisions-after_tick : (newer : Past) → AreLater moment newer → (events : List Event) → AreEventsLater moment events
      → decisions_from rules (after_tick moment older newer) events ≡ decisions_from rules (newer ++ older) events
  unfolding decisions_from
  decisions-after_tick newer later [] at = refl
  decisions-after_tick newer later (event ∷ events) at =
      rw (outcome-after_tick rules moment older ruled newer later event at.0, decision-shift (length older) (outcome_of rules (newer ++ older) event))
      (ap (λ ds. decision_of (outcome_of rules (newer ++ older) event) ∷ ds)
      (ap (λ past. decisions_from rules past events) (next_entry newer later event at.0)
      ∙ decisions-after_tick (entry_of rules (newer ++ older) event ∷ newer) (entry_later rules moment (newer ++ older) newer later event at.0) events at.1))

  places_from-after_tick : (newer : Past) (entry : PastEvent) → AreLater moment newer → moment ≤ entry.event.moment → (events : List Event) → AreEventsLater moment events
      → places rules (past_from rules (after_tick moment older (entry ∷ newer)) events) ≡ places rules (past_from rules (entry ∷ newer ++ older) events)
  unfolding past_from
  places_from-after_tick newer entry later here [] at = places-after_tick rules moment older ruled newer entry later here
  places_from-after_tick newer entry later here (event ∷ events) at =
      let others : AreLater moment (entry ∷ newer) = (here, later) in
      ap (λ past. places rules (past_from rules past events)) (next_entry (entry ∷ newer) others event at.0)
      ∙ places_from-after_tick (entry ∷ newer) (entry_of rules (entry ∷ newer ++ older) event) others
      (entry_later rules moment (entry ∷ newer ++ older) (entry ∷ newer) others event at.0).0 events at.1

  places_next-after_tick : (event : Event) (events : List Event) → AreEventsLater moment (event ∷ events)
      → places rules (past_from rules (after_tick moment older []) (event ∷ events)) ≡ places rules (past_from rules older (event ∷ events))
  unfolding past_from
  places_next-after_tick event events at =
      ap (λ past. places rules (past_from rules past events)) (next_entry [] tt event at.0)
      ∙ places_from-after_tick [] (entry_of rules older event) tt (entry_later rules moment older [] tt event at.0).0 events at.1

-- lists of events, one after another
pub past_from-append : (rules : Rules) (past : Past) (some others : List Event) → past_from rules past (some ++ others) ≡ past_from rules (past_from rules past some) others
unfolding past_from
past_from-append rules past [] others = refl
past_from-append rules past (event ∷ some) others = past_from-append rules (entry_of rules past event ∷ past) some others

decisions_from-append : (rules : Rules) (past : Past) (some others : List Event)
    → decisions_from rules past (some ++ others) ≡ decisions_from rules past some ++ decisions_from rules (past_from rules past some) others
unfolding decisions_from past_from
decisions_from-append rules past [] others = refl
decisions_from-append rules past (event ∷ some) others =
    ap (λ ds. decision_of (outcome_of rules past event) ∷ ds) (decisions_from-append rules (entry_of rules past event ∷ past) some others)

length-decisions_from : (rules : Rules) (past : Past) (events : List Event) → length (decisions_from rules past events) ≡ length events
unfolding decisions_from
length-decisions_from rules past [] = refl
length-decisions_from rules past (event ∷ events) = ap suc (length-decisions_from rules (entry_of rules past event ∷ past) events)

-- the tick itself
tick_past : (rules : Rules) (moment : ℕ) (older : Past) (events : List Event) → past_from rules older (tick_event moment ∷ events) ≡ past_from rules (after_tick moment older []) events
unfolding past_from entry_of outcome_of after_tick tick_entry tick_event
tick_past rules moment older events = refl

tick_decisions : (rules : Rules) (moment : ℕ) (older : Past) (events : List Event) → decisions_from rules older (tick_event moment ∷ events) ≡ Done ∷ decisions_from rules (after_tick moment older []) events
unfolding decisions_from entry_of outcome_of after_tick tick_entry tick_event
tick_decisions rules moment older events = refl

pub decisions_early : (rules : Rules) (events : List Event) (n moment : ℕ) → n ≤ length events → AreEventsLater moment (drop n events)
    → decisions rules (insert events n (tick_event moment)) ≡ insert (decisions rules events) n Done
unfolding decisions past_of
decisions_early rules events n moment within later =
    let first : List Event = take n events in
    let rest : List Event = drop n events in
    let older : Past = past_of rules first in
    let one : List Decision = decisions_from rules [] first in
    let two : List Decision = decisions_from rules older rest in
    let long : length one ≡ n = length-decisions_from rules [] first ∙ length-take-le n events within in
    let with_tick : decisions_from rules [] (first ++ tick_event moment ∷ rest) ≡ one ++ Done ∷ two =
    decisions_from-append rules [] first (tick_event moment ∷ rest)
    ∙ ap (λ ds. one ++ ds) (tick_decisions rules moment older rest ∙ ap (λ ds. Done ∷ ds) (decisions-after_tick rules moment older (IsRuled-past_of rules first) [] tt rest later)) in
    let without : decisions_from rules [] events ≡ one ++ two =
    ap (decisions_from rules []) (sym (take-append-drop n events)) ∙ decisions_from-append rules [] first rest in
    with_tick ∙ sym (rw (without, take_at one two n long, drop_at one two n long) refl)

take_insert : {A : Type 0} (xs : List A) (n k : ℕ) (x : A) → n ≤ k → n ≤ length xs → take (suc k) (take n xs ++ x ∷ drop n xs) ≡ take n xs ++ x ∷ take (k - n) (drop n xs)
take_insert xs zero k x few within = let same : k - 0 ≡ k = omega arith in rw same refl
take_insert [] (suc n) k x few within = absurd (omega arith)
take_insert (y ∷ xs) (suc n) zero x few within = absurd (omega arith)
take_insert (y ∷ xs) (suc n) (suc k) x few within =
    let same : suc k - suc n ≡ k - n = omega arith in
    rw same (ap (λ ys. y ∷ ys) (take_insert xs n k x (omega arith) (omega arith)))

take_split : {A : Type 0} (xs : List A) (n k : ℕ) → n ≤ k → n ≤ length xs → take k xs ≡ take n xs ++ take (k - n) (drop n xs)
take_split xs zero k few within = let same : k - 0 ≡ k = omega arith in rw same refl
take_split [] (suc n) k few within = absurd (omega arith)
take_split (y ∷ xs) (suc n) zero few within = absurd (omega arith)
take_split (y ∷ xs) (suc n) (suc k) few within =
    let same : suc k - suc n ≡ k - n = omega arith in
    rw same (ap (λ ys. y ∷ ys) (take_split xs n k (omega arith) (omega arith)))

later_take : (moment : ℕ) (n : ℕ) (events : List Event) → AreEventsLater moment events → AreEventsLater moment (take n events)
later_take moment zero events later = tt
later_take moment (suc n) [] later = tt
later_take moment (suc n) (event ∷ events) later = (later.0, later_take moment n events later.1)

places_of_rest : (rules : Rules) (moment : ℕ) (older : Past) → IsRuled rules older → (rest : List Event) → 0 < length rest → AreEventsLater moment rest
    → places rules (past_from rules (after_tick moment older []) rest) ≡ places rules (past_from rules older rest)
places_of_rest rules moment older ruled [] some later = absurd (omega arith)
places_of_rest rules moment older ruled (event ∷ rest) some later = places_next-after_tick rules moment older ruled event rest later

pub places_early : (rules : Rules) (events : List Event) (n moment k : ℕ) → n ≤ length events → AreEventsLater moment (drop n events) → n < k → k ≤ length events
    → places_after rules (take (suc k) (insert events n (tick_event moment))) ≡ places_after rules (take k events)
unfolding places_after past_of
places_early rules events n moment k within later few whole =
    let first : List Event = take n events in
    let rest : List Event = take (k - n) (drop n events) in
    let older : Past = past_of rules first in
    let some : 0 < length rest = omega (arith, length-take-le (k - n) (drop n events) (omega (arith, length-drop n events)), length-drop n events) in
    ap (λ es. places rules (past_from rules [] es)) (take_insert events n k (tick_event moment) (omega arith) within)
    ∙ ap (places rules) (past_from-append rules [] first (tick_event moment ∷ rest) ∙ tick_past rules moment older rest)
    ∙ places_of_rest rules moment older (IsRuled-past_of rules first) rest some (later_take moment (k - n) (drop n events) later)
    ∙ ap (places rules) (sym (past_from-append rules [] first rest))
    ∙ ap (λ es. places rules (past_from rules [] es)) (sym (take_split events n k (omega arith) within))

pub early : EarlyTicksChangeNoDecision
unfolding tick_event
early rules events n moment within later =
    let each : AreEventsLater moment (drop n events) = recursion_from_All (λ (event : Event). moment ≤ event.moment) (drop n events) later in
    (decisions_early rules events n moment within each, λ k few whole. places_early rules events n moment k within each few whole)
