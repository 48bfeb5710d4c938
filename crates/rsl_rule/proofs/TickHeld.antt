-- Where no event after a tick has a lower moment, the same links are held without it, up to their names,
-- they take as many places, and the same one can yield.
use Rattle.std.proofs.Common.{◌≡◌, ℕ, suc, ◌≤◌, List, [], ◌∷◌, ◌++◌, length, map, Bool, true, false, cond, ◌&&◌, ◌||◌, not, refl, ap, sym, ◌∙◌, inl, inr, arith}
use Rattle.std.specs.Prelude.{Option, Some, filter, find, ◌==◌}
use Rattle.std.specs.List.{list_all, AllByRecursion}
use Rattle.std.specs.Option.{option_map}
use Rattle.std.proofs.lemmas.Bool.{cases_lt, le-leb, lt-leb, leb-true, and_parts}
use Rattle.rsl_accounts.specs.declared.rules.Rules.{Rules}
use Rattle.rsl_event.specs.declared.event.Event.{Event}
use Rattle.rsl_event.specs.declared.nas.Nas.{Nas}
use Rattle.rsl_session.specs.declared.past_event.PastEvent.{PastEvent}
use Rattle.rsl_session.specs.declared.session.Session.{Session}
use Rattle.rsl_session.specs.Past.{Past}
use Rattle.rsl_session.specs.Clock.{clock_at}
use Rattle.rsl_session.specs.Link.{links}
use Rattle.rsl_session.specs.Binding.{is_bound_to}
use Rattle.rsl_session.specs.Lapse.{is_idle, lapses}
use Rattle.rsl_session.specs.Held.{ended_by, ends, is_freed, held_links, held_before, yields}
use Rattle.rsl_session.specs.Places.{bundles, places, places_of}
use Rattle.rsl_session.specs.Station.{is_of_station, station_of}
use Rattle.rsl_session.specs.Ask.{first_touched, held_without, has_place_beside, has_a_place_without, idle_links, is_touched_first, station_link, station_links, yielding_link, has_a_place}
use Rattle.rsl_session.specs.Alive.{has_room, is_chosen, link_of, reservation_of}
use Rattle.rsl_session.specs.Rule.{IsRuled}
use Rattle.rsl_session.proofs.Callers.{is_in, is_in-true, links-in, freed_later, freed_older, filter-filter, any_link, list_all_any, not-or}
use Rattle.rsl_rule.proofs.Shift.{touched-after_tick, yields-shift, is_idle-after_tick, eqb-shift, shift, shift-old, shift-new, shift_outcome, shift_entry, tick_event, tick_entry, after_tick, clock_at-after_tick, is_of_station-after_tick, length-after_tick, older-le, number_at-after_tick, links-after_tick, bundle_at-after_tick, lapses-after_tick, is_bound_to-after_tick, is_reserved-after_tick, is_at-after_tick, ended_by-after_tick}

-- each of some entries has a moment that is not before the tick's
abbrev pub AreLater : ℕ → Past → Type 0
AreLater moment newer = AllByRecursion (λ (entry : PastEvent). moment ≤ entry.event.moment) newer

pub or_moved : (a b c : Bool) → (b ≡ true → c ≡ true) → ((a || ((b || false) || false)) || c) ≡ (a || c)
or_moved true b c implies = refl
or_moved false false c implies = refl
or_moved false true c implies = sym (implies refl)

pub or_assoc : (a b c d : Bool) → (a || ((b || c) || d)) ≡ ((a || b) || (c || d))
or_assoc true b c d = refl
or_assoc false true c d = refl
or_assoc false false c d = refl

pub both : {a b c d : Bool} → a ≡ b → c ≡ d → (a || c) ≡ (b || d)
both one other = cc

both_and : {a b c d : Bool} → a ≡ b → c ≡ d → (a && c) ≡ (b && d)
both_and one other = cc

-- what lapses at a tick lapses at a later event
pub lapses_sooner : (rules : Rules) (past : Past) (moment : ℕ) (event : Event) (link : ℕ) → moment ≤ event.moment → lapses rules past (tick_event moment) link ≡ true → lapses rules past event link ≡ true
unfolding lapses clock_at tick_event
lapses_sooner rules past moment event link at lapsed =
    let long = leb-true _ _ lapsed in
    le-leb _ _ (omega arith)

pub filter-map : (f : ℕ → ℕ) (p q t : ℕ → Bool) → ((x : ℕ) → t x ≡ true → p (f x) ≡ q x) → (xs : List ℕ) → list_all t xs ≡ true → filter p (map f xs) ≡ map f (filter q xs)
filter-map f p q t same [] all = refl
filter-map f p q t same (x ∷ xs) all =
    let parts = and_parts (t x) (list_all t xs) all in
    rw (same x parts.0, filter-map f p q t same xs parts.1) (by_cases (q x)) where
      by_cases : (kept : Bool) → cond kept (f x ∷ map f (filter q xs)) (map f (filter q xs)) ≡ map f (cond kept (x ∷ filter q xs) (filter q xs))
      by_cases true = refl
      by_cases false = refl

pub find-map : (f : ℕ → ℕ) (p q : ℕ → Bool) → ((x : ℕ) → p (f x) ≡ q x) → (xs : List ℕ) → find p (map f xs) ≡ option_map f (find q xs)
find-map f p q same [] = refl
find-map f p q same (x ∷ xs) = rw (same x, find-map f p q same xs) (by_cases (q x)) where
  by_cases : (found : Bool) → cond found (Some (f x)) (option_map f (find q xs)) ≡ option_map f (cond found (Some x) (find q xs))
  by_cases true = refl
  by_cases false = refl

-- the links that stand when an event comes are those that have not ended and do not lapse
pub gone : Rules → Past → Event → ℕ → Bool
gone rules past event link = is_freed rules link past || lapses rules past event link

pub held_before-gone : (rules : Rules) (past : Past) (event : Event) → held_before rules past event ≡ filter (λ link. not (gone rules past event link)) (links past)
unfolding held_before held_links gone
held_before-gone rules past event =
    sym (filter-filter any_link (λ link. not (is_freed rules link past)) (λ link. not (lapses rules past event link)) (λ link. not (is_freed rules link past || lapses rules past event link))
    (λ link h. not-or (is_freed rules link past) (lapses rules past event link)) (links past) (list_all_any (links past)))

-- the link that an event opens has not ended
pub freed_newest : (rules : Rules) (entry : PastEvent) (past : Past) → is_freed rules (suc (length past)) (entry ∷ past) ≡ false
unfolding is_freed
freed_newest rules entry past =
    rw (freed_later rules past (suc (length past)) (omega arith), lt-leb (suc (length past)) (length past) (omega arith)) refl

pub shift_within : (n k link : ℕ) → link ≤ k → shift n link ≤ suc k
shift_within n k link within =
    elim (cases_lt n link) [
      | inl new ↦ omega (arith, shift-new n link new)
      | inr old ↦ omega (arith, shift-old n link old)
    ]

module _ (rules : Rules) (moment : ℕ) (older : Past) (ruled : IsRuled rules older) where
  -- an event ends a link where it does without the tick
  ended_alike : (newer : Past) → AreLater moment newer → (event : Event) → moment ≤ event.moment → (link : ℕ)
      → ended_by (after_tick moment older newer) (clock_at (after_tick moment older newer) event) event.act (shift (length older) link) ≡ ended_by (newer ++ older) (clock_at (newer ++ older) event) event.act link
  ended_alike newer later event at link =
      ap (λ now. ended_by (after_tick moment older newer) now event.act (shift (length older) link)) (clock_at-after_tick moment older newer event at)
      ∙ ended_by-after_tick rules moment older ruled newer later (clock_at (newer ++ older) event) event.act link

  -- after the next event a link has ended where it has without the tick
  pub freed-after_next : (newer : Past) (entry : PastEvent) → AreLater moment newer → moment ≤ entry.event.moment → (link : ℕ) → link ≤ suc (length (newer ++ older))
      → (link ≤ length (newer ++ older) → gone rules (after_tick moment older newer) entry.event (shift (length older) link) ≡ gone rules (newer ++ older) entry.event link)
      → is_freed rules (shift (length older) link) (shift_entry (length older) entry ∷ after_tick moment older newer) ≡ is_freed rules link (entry ∷ newer ++ older)
  unfolding gone shift_entry ends
  freed-after_next newer entry later at link within same =
      elim (cases_lt (length (newer ++ older)) link) [
        | inl new ↦
            let here : link ≡ suc (length (newer ++ older)) = omega arith in
            let name : shift (length older) link ≡ suc (length (after_tick moment older newer)) =
            shift-new (length older) link (omega (arith, older-le older newer)) ∙ ap suc here ∙ ap suc (sym (length-after_tick moment older newer)) in
            ap (λ l. is_freed rules l (shift_entry (length older) entry ∷ after_tick moment older newer)) name ∙ freed_newest rules (shift_entry (length older) entry) (after_tick moment older newer)
            ∙ sym (ap (λ l. is_freed rules l (entry ∷ newer ++ older)) here ∙ freed_newest rules entry (newer ++ older))
        | inr old ↦
            freed_older rules (shift_entry (length older) entry) (after_tick moment older newer) (shift (length older) link)
            (omega (arith, length-after_tick moment older newer, shift_within (length older) (length (newer ++ older)) link old))
            ∙ or_assoc (is_freed rules (shift (length older) link) (after_tick moment older newer)) (lapses rules (after_tick moment older newer) entry.event (shift (length older) link))
            (ended_by (after_tick moment older newer) (clock_at (after_tick moment older newer) entry.event) entry.event.act (shift (length older) link)) (yields (shift (length older) link) (shift_outcome (length older) entry.outcome))
            ∙ both (same old) (both (ended_alike newer later entry.event at link) (yields-shift (length older) link entry.outcome))
            ∙ sym (or_assoc (is_freed rules link (newer ++ older)) (lapses rules (newer ++ older) entry.event link) (ended_by (newer ++ older) (clock_at (newer ++ older) entry.event) entry.event.act link) (yields link entry.outcome))
            ∙ sym (freed_older rules entry (newer ++ older) link old)
      ]

  pub gone-after_tick : (newer : Past) → AreLater moment newer → (event : Event) → moment ≤ event.moment → (link : ℕ) → link ≤ length (newer ++ older)
      → gone rules (after_tick moment older newer) event (shift (length older) link) ≡ gone rules (newer ++ older) event link
  unfolding gone after_tick ends tick_entry tick_event ended_by yields
  gone-after_tick [] later event at link within =
      rw (lapses-after_tick rules moment older ruled [] later event at link, shift-old (length older) link within, freed_older rules (tick_entry moment) older link within)
      (or_moved (is_freed rules link older) (lapses rules older (tick_event moment) link) (lapses rules older event link) (lapses_sooner rules older moment event link at))
  gone-after_tick (entry ∷ newer) later event at link within =
      rw (freed-after_next newer entry later.1 later.0 link within (gone-after_tick newer later.1 entry.event later.0 link), lapses-after_tick rules moment older ruled (entry ∷ newer) later event at link) refl

  pub not_gone : (newer : Past) → AreLater moment newer → (event : Event) → moment ≤ event.moment → (link : ℕ) → is_in (newer ++ older) link ≡ true
      → not (gone rules (after_tick moment older newer) event (shift (length older) link)) ≡ not (gone rules (newer ++ older) event link)
  not_gone newer later event at link within = ap not (gone-after_tick newer later event at link (is_in-true (newer ++ older) link within))

  pub held_before-after_tick : (newer : Past) → AreLater moment newer → (event : Event) → moment ≤ event.moment
      → held_before rules (after_tick moment older newer) event ≡ map (shift (length older)) (held_before rules (newer ++ older) event)
  held_before-after_tick newer later event at =
      held_before-gone rules (after_tick moment older newer) event
      ∙ ap (filter (λ link. not (gone rules (after_tick moment older newer) event link))) (links-after_tick moment older newer)
      ∙ filter-map (shift (length older)) (λ link. not (gone rules (after_tick moment older newer) event link)) (λ link. not (gone rules (newer ++ older) event link)) (is_in (newer ++ older))
      (not_gone newer later event at) (links (newer ++ older)) (links-in (newer ++ older))
      ∙ ap (map (shift (length older))) (sym (held_before-gone rules (newer ++ older) event))

  pub not_freed : (newer : Past) (entry : PastEvent) → AreLater moment newer → moment ≤ entry.event.moment → (link : ℕ) → is_in (entry ∷ newer ++ older) link ≡ true
      → not (is_freed rules (shift (length older) link) (after_tick moment older (entry ∷ newer))) ≡ not (is_freed rules link (entry ∷ newer ++ older))
  unfolding after_tick
  not_freed newer entry later at link within =
      ap not (freed-after_next newer entry later at link (is_in-true (entry ∷ newer ++ older) link within) (gone-after_tick newer later entry.event at link))

  pub held-after_tick : (newer : Past) (entry : PastEvent) → AreLater moment newer → moment ≤ entry.event.moment
      → held_links rules (after_tick moment older (entry ∷ newer)) ≡ map (shift (length older)) (held_links rules (entry ∷ newer ++ older))
  unfolding held_links
  held-after_tick newer entry later at =
      ap (filter (λ link. not (is_freed rules link (after_tick moment older (entry ∷ newer))))) (links-after_tick moment older (entry ∷ newer))
      ∙ filter-map (shift (length older)) (λ link. not (is_freed rules link (after_tick moment older (entry ∷ newer)))) (λ link. not (is_freed rules link (entry ∷ newer ++ older))) (is_in (entry ∷ newer ++ older))
      (not_freed newer entry later at) (links (entry ∷ newer ++ older)) (links-in (entry ∷ newer ++ older))

  pub bundles-after_tick : (newer : Past) (some : List ℕ) → bundles (after_tick moment older newer) (map (shift (length older)) some) ≡ bundles (newer ++ older) some
  unfolding bundles
  bundles-after_tick newer [] = refl
  bundles-after_tick newer (link ∷ some) = rw (bundle_at-after_tick rules moment older ruled newer link, bundles-after_tick newer some) refl

  pub has_place_beside-after_tick : (newer : Past) (some : List ℕ) → has_place_beside rules (after_tick moment older newer) (map (shift (length older)) some) ≡ has_place_beside rules (newer ++ older) some
  unfolding has_place_beside
  has_place_beside-after_tick newer some = rw (bundles-after_tick newer some) refl

  pub bundles_before : (newer : Past) → AreLater moment newer → (event : Event) → moment ≤ event.moment
      → bundles (after_tick moment older newer) (held_before rules (after_tick moment older newer) event) ≡ bundles (newer ++ older) (held_before rules (newer ++ older) event)
  bundles_before newer later event at =
      ap (bundles (after_tick moment older newer)) (held_before-after_tick newer later event at) ∙ bundles-after_tick newer (held_before rules (newer ++ older) event)

  pub places-after_tick : (newer : Past) (entry : PastEvent) → AreLater moment newer → moment ≤ entry.event.moment → places rules (after_tick moment older (entry ∷ newer)) ≡ places rules (entry ∷ newer ++ older)
  unfolding places
  places-after_tick newer entry later at =
      ap (places_of rules.ports)
      (ap (bundles (after_tick moment older (entry ∷ newer))) (held-after_tick newer entry later at) ∙ bundles-after_tick (entry ∷ newer) (held_links rules (entry ∷ newer ++ older)))

  pub has_a_place-after_tick : (newer : Past) → AreLater moment newer → (event : Event) → moment ≤ event.moment → has_a_place rules (after_tick moment older newer) event ≡ has_a_place rules (newer ++ older) event
  unfolding has_a_place
  has_a_place-after_tick newer later event at =
      rw (held_before-after_tick newer later event at) (has_place_beside-after_tick newer (held_before rules (newer ++ older) event))

  -- the links that can yield, and whether a place is free without one
  pub idle_links-after_tick : (newer : Past) → AreLater moment newer → (event : Event) → moment ≤ event.moment
      → idle_links rules (after_tick moment older newer) event ≡ map (shift (length older)) (idle_links rules (newer ++ older) event)
  unfolding idle_links
  idle_links-after_tick newer later event at =
      ap (filter (is_idle rules (after_tick moment older newer) event)) (held_before-after_tick newer later event at)
      ∙ filter-map (shift (length older)) (is_idle rules (after_tick moment older newer) event) (is_idle rules (newer ++ older) event) any_link
      (λ link h. is_idle-after_tick rules moment older ruled newer later event at link) (held_before rules (newer ++ older) event) (list_all_any (held_before rules (newer ++ older) event))

  pub is_touched_first-after_tick : (newer : Past) → AreLater moment newer → (some : List ℕ) (link : ℕ)
      → is_touched_first (after_tick moment older newer) (map (shift (length older)) some) (shift (length older) link) ≡ is_touched_first (newer ++ older) some link
  unfolding is_touched_first
  is_touched_first-after_tick newer later [] link = refl
  is_touched_first-after_tick newer later (other ∷ some) link =
      both_and
      (rw (touched-after_tick rules moment older ruled newer later link, touched-after_tick rules moment older ruled newer later other) refl)
      (is_touched_first-after_tick newer later some link)

  first_touched-after_tick : (newer : Past) → AreLater moment newer → (some : List ℕ)
      → first_touched (after_tick moment older newer) (map (shift (length older)) some) ≡ option_map (shift (length older)) (first_touched (newer ++ older) some)
  unfolding first_touched
  first_touched-after_tick newer later some =
      find-map (shift (length older)) (is_touched_first (after_tick moment older newer) (map (shift (length older)) some)) (is_touched_first (newer ++ older) some)
      (is_touched_first-after_tick newer later some) some

  pub yielding_link-after_tick : (newer : Past) → AreLater moment newer → (event : Event) → moment ≤ event.moment
      → yielding_link rules (after_tick moment older newer) event ≡ option_map (shift (length older)) (yielding_link rules (newer ++ older) event)
  unfolding yielding_link
  yielding_link-after_tick newer later event at =
      rw (idle_links-after_tick newer later event at) (first_touched-after_tick newer later (idle_links rules (newer ++ older) event))

  pub station_links-after_tick : (newer : Past) → AreLater moment newer → (event : Event) → moment ≤ event.moment
      → station_links rules (after_tick moment older newer) event ≡ map (shift (length older)) (station_links rules (newer ++ older) event)
  unfolding station_links
  station_links-after_tick newer later event at =
      ap (filter (is_of_station (after_tick moment older newer) (station_of event.act))) (held_before-after_tick newer later event at)
      ∙ filter-map (shift (length older)) (is_of_station (after_tick moment older newer) (station_of event.act)) (is_of_station (newer ++ older) (station_of event.act)) any_link
      (λ link h. is_of_station-after_tick rules moment older ruled newer (station_of event.act) link) (held_before rules (newer ++ older) event) (list_all_any (held_before rules (newer ++ older) event))

  pub station_link-after_tick : (newer : Past) → AreLater moment newer → (event : Event) → moment ≤ event.moment
      → station_link rules (after_tick moment older newer) event ≡ option_map (shift (length older)) (station_link rules (newer ++ older) event)
  unfolding station_link
  station_link-after_tick newer later event at =
      rw (station_links-after_tick newer later event at) (first_touched-after_tick newer later (station_links rules (newer ++ older) event))

  pub held_without-after_tick : (newer : Past) → AreLater moment newer → (event : Event) → moment ≤ event.moment → (link : ℕ)
      → held_without rules (after_tick moment older newer) event (shift (length older) link) ≡ map (shift (length older)) (held_without rules (newer ++ older) event link)
  unfolding held_without
  held_without-after_tick newer later event at link =
      ap (filter (λ other. not (other == shift (length older) link))) (held_before-after_tick newer later event at)
      ∙ filter-map (shift (length older)) (λ other. not (other == shift (length older) link)) (λ other. not (other == link)) any_link
      (λ other h. ap not (eqb-shift (length older) other link)) (held_before rules (newer ++ older) event) (list_all_any (held_before rules (newer ++ older) event))

  pub has_a_place_without-after_tick : (newer : Past) → AreLater moment newer → (event : Event) → moment ≤ event.moment → (link : ℕ)
      → has_a_place_without rules (after_tick moment older newer) event (shift (length older) link) ≡ has_a_place_without rules (newer ++ older) event link
  unfolding has_a_place_without
  has_a_place_without-after_tick newer later event at link =
      rw (held_without-after_tick newer later event at link) (has_place_beside-after_tick newer (held_without rules (newer ++ older) event link))

  pub has_room-after_tick : (newer : Past) → AreLater moment newer → (event : Event) → moment ≤ event.moment → has_room rules (after_tick moment older newer) event ≡ has_room rules (newer ++ older) event
  unfolding has_room
  has_room-after_tick newer later event at = rw (bundles_before newer later event at) refl

  pub link_of-after_tick : (newer : Past) → AreLater moment newer → (event : Event) → moment ≤ event.moment → (session : Session)
      → link_of rules (after_tick moment older newer) event session ≡ option_map (shift (length older)) (link_of rules (newer ++ older) event session)
  unfolding link_of
  link_of-after_tick newer later event at session =
      ap (find (is_bound_to (after_tick moment older newer) session)) (held_before-after_tick newer later event at)
      ∙ find-map (shift (length older)) (is_bound_to (after_tick moment older newer) session) (is_bound_to (newer ++ older) session)
      (is_bound_to-after_tick rules moment older ruled newer session) (held_before rules (newer ++ older) event)

  pub is_chosen-after_tick : (newer : Past) (nas : Nas) (class : Option ℕ) (link : ℕ) → is_chosen (after_tick moment older newer) nas class (shift (length older) link) ≡ is_chosen (newer ++ older) nas class link
  unfolding is_chosen
  is_chosen-after_tick newer nas class link =
      rw (is_reserved-after_tick rules moment older ruled newer link, is_at-after_tick rules moment older ruled newer nas link, number_at-after_tick moment older newer link) refl

  pub reservation_of-after_tick : (newer : Past) → AreLater moment newer → (event : Event) → moment ≤ event.moment → (nas : Nas) (class : Option ℕ)
      → reservation_of rules (after_tick moment older newer) event nas class ≡ option_map (shift (length older)) (reservation_of rules (newer ++ older) event nas class)
  unfolding reservation_of
  reservation_of-after_tick newer later event at nas class =
      ap (find (is_chosen (after_tick moment older newer) nas class)) (held_before-after_tick newer later event at)
      ∙ find-map (shift (length older)) (is_chosen (after_tick moment older newer) nas class) (is_chosen (newer ++ older) nas class)
      (is_chosen-after_tick newer nas class) (held_before rules (newer ++ older) event)
