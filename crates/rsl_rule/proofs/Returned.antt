-- A fresh ask ends the link of its station that is first in turn, if the others leave a place.
use Rattle.std.proofs.Common.{◌≡◌, ℕ, ◌-◌, ◌^◌, ◌<◌, ◌≤◌, List, [], ◌∷◌, Bool, true, false, refl, ap, sym, ◌∙◌, arith}
use Rattle.std.specs.Prelude.{◌↔◌, Option, Some, None, Contains}
use Rattle.std.specs.List.{AllByRecursion}
use Rattle.std.proofs.lemmas.Bool.{and_from, cond-true, cond-false, le-leb, leb-true, lt-ltb}
use Rattle.std.proofs.lemmas.List.Elements.{All-contains, recursion_from_All}
use Rattle.std.proofs.lemmas.Slice.Eq.{bytes_eq-Decides}
use Rattle.rsl_accounts.specs.declared.rules.Rules.{Rules}
use Rattle.rsl_event.specs.declared.event.Event.{Event}
use Rattle.rsl_session.specs.declared.outcome.Outcome.TheVariants.{AcceptedInPlace}
use Rattle.rsl_session.specs.Past.{Past}
use Rattle.rsl_session.specs.Touch.{touched_at}
use Rattle.rsl_session.specs.Station.{is_of_station, same_station, station_at, station_of}
use Rattle.rsl_session.specs.Held.{held_before}
use Rattle.rsl_session.specs.Ask.{accepts, ask_outcome, first_touched, fresh_outcome, has_a_place_without, has_place_beside, is_touched_first, placed_outcome, returning_outcome, station_link, station_links}
use Rattle.rsl_session.specs.Rule.{outcome_by, outcome_of}
use Rattle.rsl_rule.specs.Yielding.{CanMakeRoom, FindsItsPlace, IsFirstTouched, IsFreshAsk, IsOfItsStation}
use Rattle.rsl_rule.proofs.Lowest.{IsAscending}
use Rattle.rsl_rule.proofs.Filtered.{contains_one, filter_keeps, none_passes}
use Rattle.rsl_rule.proofs.Yielded.{first_is, station_links_ascend}

-- the link that is first in turn is found
first_passes : (past : Past) (links : List ℕ) (link : ℕ) → AllByRecursion (λ other. touched_at link past ≤ touched_at other past) links → is_touched_first past links link ≡ true
unfolding is_touched_first
first_passes past [] link first = refl
first_passes past (other ∷ links) link first = and_from _ _ (le-leb _ _ first.0) (first_passes past links link first.1)

one_first : (past : Past) (links : List ℕ) (link other : ℕ) → IsFirstTouched past links link → IsFirstTouched past links other → other ≡ link
one_first past links link other one two =
    let has_one : Contains links link = contains_one links link one.was_one in
    let has_two : Contains links other = contains_one links other two.was_one in
    let sooner : touched_at link past ≤ touched_at other past = All-contains (λ y. touched_at link past ≤ touched_at y past) links other one.touched_first has_two in
    let later : touched_at other past ≤ touched_at link past = All-contains (λ y. touched_at other past ≤ touched_at y past) links link two.touched_first has_one in
    let alike : touched_at other past ≡ touched_at link past = omega arith in
    let before : link ≤ other = All-contains (λ y. touched_at y past ≡ touched_at link past → link ≤ y) links other one.opened_first has_two alike in
    let after : other ≤ link = All-contains (λ y. touched_at y past ≡ touched_at other past → other ≤ y) links link two.opened_first has_one (sym alike) in
    omega arith

first_found : (past : Past) (links : List ℕ) (link : ℕ) → IsAscending links → IsFirstTouched past links link → first_touched past links ≡ Some link
unfolding first_touched
first_found past links link ascending one = by_cases (first_touched past links) refl where
  passes : is_touched_first past links link ≡ true
  passes = first_passes past links link (recursion_from_All (λ other. touched_at link past ≤ touched_at other past) links one.touched_first)

  not_none : first_touched past links ≡ None → ⊥
  not_none none =
      let misses : is_touched_first past links link ≡ false =
      All-contains (λ y. is_touched_first past links y ≡ false) links link (none_passes (is_touched_first past links) links none) (contains_one links link one.was_one) in
      let contradiction : false ≡ true = sym misses ∙ passes in
      cc

  by_cases : (found : Option ℕ) → first_touched past links ≡ found → first_touched past links ≡ Some link
  by_cases None is = absurd (not_none is)
  by_cases (Some other) is = is ∙ ap Some (one_first past links link other one (first_is past links other ascending is))

-- the links of a station
same_is : (one other : Option (List ℕ)) → same_station one other ≡ true → (station : List ℕ) × (other ≡ Some station) × (one ≡ Some station)
same_is None other same = cc
same_is (Some a) None same = cc
same_is (Some a) (Some b) same = (b, refl, ap Some ((bytes_eq-Decides a b).0 same))

of_its_station : (past : Past) (event : Event) (link : ℕ) → (is_of_station past (station_of event.act) link ≡ true) ↔ IsOfItsStation past event link
unfolding is_of_station
of_its_station past event link = (
  (λ is. let parts = same_is (station_at link past) (station_of event.act) is in record { station = parts.0; named = parts.1; touched_with = parts.2 }),
  (λ is. rw (is.named, is.touched_with) ((bytes_eq-Decides is.station is.station).1 refl)),
)

module _ (rules : Rules) (past : Past) (event : Event) where
  station_links_are : (link : ℕ) → Contains (station_links rules past event) link ↔ (Contains (held_before rules past event) link × IsOfItsStation past event link)
  unfolding station_links
  station_links_are link =
      let keeps = filter_keeps (is_of_station past (station_of event.act)) (held_before rules past event) link in (
        (λ has. let parts = keeps.0 has in (parts.0, (of_its_station past event link).0 parts.1)),
        (λ has. keeps.1 (has.0, (of_its_station past event link).1 has.1)),
      )

  station_link_is : (link : ℕ) → IsFirstTouched past (station_links rules past event) link → station_link rules past event ≡ Some link
  unfolding station_link
  station_link_is link first = first_found past (station_links rules past event) link (station_links_ascend rules past event) first

  station_link_first : (link : ℕ) → station_link rules past event ≡ Some link → IsFirstTouched past (station_links rules past event) link
  unfolding station_link
  station_link_first link found = first_is past (station_links rules past event) link (station_links_ascend rules past event) found

  none_without : station_of event.act ≡ None → (link : ℕ) → CanMakeRoom rules past event link → ⊥
  none_without no_station link can =
      let its = ((station_links_are link).0 (contains_one (station_links rules past event) link can.first_in_turn.was_one)).1 in
      let contradiction : None ≡ Some its.station = sym no_station ∙ its.named in
      cc

  leaves : (link : ℕ) → CanMakeRoom rules past event link → has_a_place_without rules past event link ≡ true
  unfolding has_a_place_without has_place_beside
  leaves link can = let room = can.leaves_a_place in le-leb _ _ (omega arith)

  makes_room : (link : ℕ) → station_link rules past event ≡ Some link → has_a_place_without rules past event link ≡ true → CanMakeRoom rules past event link
  unfolding has_a_place_without has_place_beside
  makes_room link found fits =
      let room = leb-true _ _ fits in record { first_in_turn = station_link_first link found; leaves_a_place = omega arith }

module _ (rules : Rules) (past : Past) (event : Event) (asked : IsFreshAsk rules past event) (left : accepts past < 2 ^ 64 - 1) where
  fresh_is : outcome_of rules past event ≡ fresh_outcome rules past event
  unfolding outcome_of
  fresh_is =
      ap (outcome_by rules past event) asked.asks ∙ ap (ask_outcome rules past event) asked.repeats_none
      ∙ cond-true _ _ _ (lt-ltb (accepts past) (2 ^ 64 - 1) left)

  returning_is : (found : Option ℕ) → station_link rules past event ≡ found → outcome_of rules past event ≡ returning_outcome rules past event found
  unfolding fresh_outcome
  returning_is found is = fresh_is ∙ ap (returning_outcome rules past event) is

  in_place : (link : ℕ) → CanMakeRoom rules past event link → outcome_of rules past event ≡ AcceptedInPlace (accepts past) link
  in_place link can = returning_is (Some link) (station_link_is rules past event link can.first_in_turn) ∙ cond-true _ _ _ (leaves rules past event link can)

  placed : ((link : ℕ) → CanMakeRoom rules past event link → ⊥) → outcome_of rules past event ≡ placed_outcome rules past event
  placed none = by_cases (station_link rules past event) refl where
    fitting : (link : ℕ) (fits : Bool) → station_link rules past event ≡ Some link → has_a_place_without rules past event link ≡ fits → outcome_of rules past event ≡ placed_outcome rules past event
    fitting link true found fits = absurd (none link (makes_room rules past event link found fits))
    fitting link false found fits = returning_is (Some link) found ∙ cond-false _ _ _ fits

    by_cases : (found : Option ℕ) → station_link rules past event ≡ found → outcome_of rules past event ≡ placed_outcome rules past event
    by_cases None is = returning_is None is
    by_cases (Some link) is = fitting link (has_a_place_without rules past event link) is refl

  pub finds_its_place : FindsItsPlace rules past event
  finds_its_place = record {
    of_station = station_links_are rules past event;
    in_place = in_place;
    placed = placed;
    without_station = λ no_station. placed (none_without rules past event no_station);
  }
