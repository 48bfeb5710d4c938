-- The held links of a past that follows the rule: they stand in rising order, and each has an access server,
-- and an accept number or a session.
use Rattle.std.proofs.Common.{◌≡◌, ℕ, suc, ◌-◌, ◌^◌, ◌≤◌, [], ◌∷◌, ◌++◌, length, Bool, true, false, cond, ◌&&◌, ◌||◌, refl, sym, subst, arith}
use Rattle.std.specs.Prelude.{Option, Some, None, ⊤, nat_lt, nat_le, is_some}
use Rattle.std.specs.List.{list_all}
use Rattle.std.specs.Option.{option_or}
use Rattle.std.proofs.lemmas.Bool.{eq-eqb, and_parts, and_from, le-leb, leb-true}
use Rattle.rsl_accounts.specs.declared.rules.Rules.{Rules}
use Rattle.rsl_event.specs.declared.event.Event.{Event}
use Rattle.rsl_event.specs.declared.event.Act.{Act}
use Rattle.rsl_event.specs.declared.event.Act.TheVariants.{Ask, Alive, Stop, Sweep, Tick}
use Rattle.rsl_session.specs.declared.past_event.PastEvent.{PastEvent}
use Rattle.rsl_session.specs.declared.outcome.Outcome.{Outcome}
use Rattle.rsl_session.specs.declared.outcome.Outcome.TheVariants.{Accepted, AcceptedInPlace, Refused, Repeated, Opened, Took, Renewed, Ignored, Over, Passed}
use Rattle.rsl_session.specs.declared.kept.KeptAsk.{KeptAsk}
use Rattle.rsl_session.specs.declared.session.Session.{Session}
use Rattle.rsl_session.specs.Past.{Past, entry_at}
use Rattle.rsl_session.specs.Link.{links, opens, nas_at, nas_of, number_at, number_of}
use Rattle.rsl_session.specs.Binding.{binds, session_at, session_of, bound_by}
use Rattle.rsl_session.specs.Held.{held_links, held_before}
use Rattle.rsl_session.specs.Ask.{ask_outcome, fresh_outcome, placed_outcome, returning_outcome, station_link, unfitting_outcome, repeated_ask, has_a_place, has_a_place_without, yielding_link, accepts}
use Rattle.rsl_session.specs.Alive.{alive_outcome, unbound_outcome, reservation_of, has_room}
use Rattle.rsl_session.specs.Closed.{is_closed}
use Rattle.rsl_session.specs.Rule.{IsRuled, outcome_of, outcome_by}
use Rattle.rsl_session.proofs.Ruled.{is_in, is_in-true, links-in}
use Rattle.rsl_session.proofs.BookLists.{IsRising, rising_push, rising_filter, all_weaker, all_push, all_filter}
use Rattle.rsl_session.proofs.BookViews.{did, nas_older, number_older}

-- held links stand in rising order
links_rise : (past : Past) → IsRising (links past)
unfolding links IsRising
links_rise [] = tt
links_rise (entry ∷ past) = by_cases (opens entry.outcome) (links_rise past) where
  by_cases : (new : Bool) → IsRising (links past)
      → IsRising (cond new (links past ++ suc (length past) ∷ []) (links past))
  by_cases true rest = rising_push (links past) (suc (length past)) (is_in past) (λ x within. omega (arith, is_in-true past x within)) (links-in past) rest
  by_cases false rest = rest

pub held_before_rises : (rules : Rules) (past : Past) (event : Event)
    → IsRising (held_before rules past event)
unfolding held_links held_before
held_before_rises rules past event = rising_filter _ _ (rising_filter _ (links past) (links_rise past))

-- what an event that opens a link is: an ask, which gives its number, or an alive, which binds it
pub IsOpening : Act → Outcome → Type 0
IsOpening act (Accepted number) = is_some (nas_of act) ≡ true
IsOpening act (AcceptedInPlace number yielded) = is_some (nas_of act) ≡ true
IsOpening act Opened = (is_some (nas_of act) ≡ true) × (is_some (session_of act) ≡ true)
IsOpening act _ = ⊤

opening_of : (rules : Rules) (past : Past) (event : Event) → IsOpening event.act (outcome_of rules past event)
unfolding IsOpening outcome_of fresh_outcome placed_outcome nas_of session_of
opening_of rules past event = by_act event.act where
  of_ask : (act : Act) → is_some (nas_of act) ≡ true → (found : Option KeptAsk)
      → IsOpening act (ask_outcome rules past event found)
  of_ask act at (Some ask) = tt
  of_ask act at None = numbered (nat_lt (accepts past) (2 ^ 64 - 1)) where
    without : (link : ℕ) (fits : Bool)
        → IsOpening act (cond fits (AcceptedInPlace (accepts past) link) Refused)
    without link true = at
    without link false = tt

    unfitting : (found : Option ℕ) → IsOpening act (unfitting_outcome rules past event found)
    unfitting None = tt
    unfitting (Some link) = without link (has_a_place_without rules past event link)

    by_place : (free : Bool)
        → IsOpening act (cond free (Accepted (accepts past)) (unfitting_outcome rules past event (yielding_link rules past event)))
    by_place true = at
    by_place false = unfitting _

    placed : IsOpening act (placed_outcome rules past event)
    placed = by_place (has_a_place rules past event)

    in_place : (link : ℕ) (fits : Bool)
        → IsOpening act (cond fits (AcceptedInPlace (accepts past) link) (placed_outcome rules past event))
    in_place link true = at
    in_place link false = placed

    fresh : (found : Option ℕ) → IsOpening act (returning_outcome rules past event found)
    fresh None = placed
    fresh (Some link) = in_place link (has_a_place_without rules past event link)

    numbered : (left : Bool) → IsOpening act (cond left (fresh_outcome rules past event) Refused)
    numbered true = fresh (station_link rules past event)
    numbered false = tt

  of_alive : (act : Act) → (is_some (nas_of act) ≡ true) × (is_some (session_of act) ≡ true)
      → (session : Session) (class found : Option ℕ)
      → IsOpening act (alive_outcome rules past event session class found)
  of_alive act at session class (Some link) = tt
  of_alive act at session class None = open_or_closed (is_closed rules past event session) where
    opened : (room : Bool) → IsOpening act (cond room Opened Over)
    opened true = at
    opened false = tt

    unbound : (found : Option ℕ) → IsOpening act (unbound_outcome rules past event found)
    unbound (Some link) = tt
    unbound None = opened (has_room rules past event)

    open_or_closed : (closed : Bool)
        → IsOpening act (cond closed Ignored (unbound_outcome rules past event (reservation_of rules past event session.nas class)))
    open_or_closed true = tt
    open_or_closed false = unbound _

  by_act : (act : Act) → IsOpening act (outcome_by rules past event act)
  by_act (Ask key nas station) = of_ask (Ask key nas station) refl (repeated_ask rules past event key)
  by_act (Alive nas id bundle class station) = of_alive (Alive nas id bundle class station) (refl, refl) _ class _
  by_act (Stop nas id) = tt
  by_act (Sweep nas delay) = tt
  by_act Tick = tt

-- whether a link has opened, and has an access server, and an accept number or a session
pub is_known : Past → ℕ → Bool
is_known past link = nat_le link (length past) && (is_some (nas_at link past) && (is_some (number_at link past) || is_some (session_at link past)))

pub known_in : (past : Past) (link : ℕ) → is_known past link ≡ true → link ≤ length past
unfolding is_known
known_in past link known =
    leb-true link (length past) (and_parts (nat_le link (length past)) (is_some (nas_at link past) && (is_some (number_at link past) || is_some (session_at link past))) known).0

pub known_at : (past : Past) (link : ℕ) → is_known past link ≡ true
    → (is_some (nas_at link past) ≡ true) × ((is_some (number_at link past) || is_some (session_at link past)) ≡ true)
unfolding is_known
known_at past link known =
    let parts = and_parts (nat_le link (length past)) (is_some (nas_at link past) && (is_some (number_at link past) || is_some (session_at link past))) known in
    and_parts (is_some (nas_at link past)) (is_some (number_at link past) || is_some (session_at link past)) parts.1

known_older : (entry : PastEvent) (past : Past) (link : ℕ) → is_known past link ≡ true
    → is_known (entry ∷ past) link ≡ true
unfolding is_known session_at
known_older entry past link known =
    let within = known_in past link known in
    let parts = known_at past link known in
    rw (nas_older entry past link within, number_older entry past link within, le-leb link (suc (length past)) (omega arith), parts.0)
    (by_cases (number_at link past) (session_at link past) (bound_by link (suc (length past)) entry) parts.1) where
      by_cases : (number : Option ℕ) (session new : Option Session)
          → (is_some number || is_some session) ≡ true
          → (is_some number || is_some (option_or session new)) ≡ true
      by_cases (Some number) session new has = refl
      by_cases None (Some session) new has = refl
      by_cases None None new has = cc

bound_opened : (number : Option ℕ) (session new : Option Session) → is_some new ≡ true
    → (is_some number || is_some (option_or session new)) ≡ true
bound_opened (Some number) session new has = refl
bound_opened None (Some session) new has = refl
bound_opened None None new has = has

known_new : (event : Event) (past : Past) (outcome : Outcome) → IsOpening event.act outcome
    → opens outcome ≡ true → is_known (did event outcome ∷ past) (suc (length past)) ≡ true
unfolding is_known IsOpening nas_at number_at entry_at number_of opens session_at bound_by binds
known_new event past (Accepted number) opening new =
    rw (eq-eqb (suc (length past)) (suc (length past)) refl, le-leb (suc (length past)) (suc (length past)) (omega arith)) (and_from _ _ opening refl)
known_new event past (AcceptedInPlace number yielded) opening new =
    rw (eq-eqb (suc (length past)) (suc (length past)) refl, le-leb (suc (length past)) (suc (length past)) (omega arith)) (and_from _ _ opening refl)
known_new event past Opened opening new =
    rw (eq-eqb (suc (length past)) (suc (length past)) refl, le-leb (suc (length past)) (suc (length past)) (omega arith))
    (and_from _ _ opening.0 (bound_opened None (session_at (suc (length past)) past) (session_of event.act) opening.1))
known_new event past Refused opening new = cc
known_new event past (Repeated decision) opening new = cc
known_new event past (Took link) opening new = cc
known_new event past (Renewed link) opening new = cc
known_new event past Ignored opening new = cc
known_new event past Over opening new = cc
known_new event past Passed opening new = cc

links_known : (rules : Rules) (past : Past) → IsRuled rules past → list_all (is_known past)
    (links past) ≡ true
unfolding links IsRuled
links_known rules [] ruled = refl
links_known rules (entry ∷ past) ruled =
    by_cases (opens entry.outcome) refl (all_weaker (is_known past) (is_known (entry ∷ past)) (known_older entry past) (links past) (links_known rules past ruled.1)) where
      opening : IsOpening entry.event.act entry.outcome
      opening = subst (IsOpening entry.event.act) (sym ruled.0) (opening_of rules past entry.event)

      by_cases : (new : Bool) → opens entry.outcome ≡ new → list_all (is_known (entry ∷ past))
          (links past) ≡ true
          → list_all (is_known (entry ∷ past))
          (cond new (links past ++ suc (length past) ∷ []) (links past)) ≡ true
      by_cases true is older = all_push (is_known (entry ∷ past)) (links past) (suc (length past)) older (known_new entry.event past entry.outcome opening is)
      by_cases false is older = older

pub held_before_known : (rules : Rules) (past : Past) (event : Event) → IsRuled rules past
    → list_all (is_known past) (held_before rules past event) ≡ true
unfolding held_links held_before
held_before_known rules past event ruled = all_filter _ (is_known past) _ (all_filter _ (is_known past) (links past) (links_known rules past ruled))
