-- A link that yields to an event is the one of its station that was touched longest ago, or the stale one where
-- no place was free, and it makes room. Of several touched then it is the one that opened first.
use Rattle.std.proofs.Common.{◌≡◌, ℕ, suc, ◌-◌, ◌^◌, ◌≤◌, List, [], ◌∷◌, length, Bool, true, false, cond, ◌||◌, refl, ap, ◌∙◌, subst, ◌⊎◌, inl, inr, arith}
use Rattle.std.specs.Prelude.{Option, Some, None, All, Any, find, nat_le, nat_lt}
use Rattle.std.specs.List.{AllByRecursion}
use Rattle.std.proofs.lemmas.Bool.{and_parts, eq-eqb, le-leb, leb-true}
use Rattle.std.proofs.lemmas.List.Elements.{All-from_recursion}
use Rattle.rsl_accounts.specs.declared.rules.Rules.{Rules}
use Rattle.rsl_event.specs.declared.event.Act.{Act}
use Rattle.rsl_event.specs.declared.event.Act.TheVariants.{Ask, Alive, Stop, Sweep, Tick}
use Rattle.rsl_event.specs.declared.event.Event.{Event}
use Rattle.rsl_session.specs.declared.outcome.Outcome.TheVariants.{Accepted, AcceptedInPlace, Refused, Opened, Ignored, Over}
use Rattle.rsl_session.specs.declared.kept.KeptAsk.{KeptAsk}
use Rattle.rsl_session.specs.declared.session.Session.{Session}
use Rattle.rsl_session.specs.Past.{Past}
use Rattle.rsl_session.specs.Touch.{touched_at}
use Rattle.rsl_session.specs.Held.{ends, held_before, is_freed, yields}
use Rattle.rsl_session.specs.Ask.{accepts, ask_outcome, first_touched, fresh_outcome, has_a_place, has_a_place_without, idle_links, is_touched_first, placed_outcome, repeated_ask, returning_outcome, station_link, station_links, unfitting_outcome, yielding_link}
use Rattle.rsl_session.specs.Alive.{alive_outcome, has_room, reservation_of, unbound_outcome}
use Rattle.rsl_session.specs.Closed.{is_closed}
use Rattle.rsl_session.specs.Rule.{entry_of, outcome_by, outcome_of}
use Rattle.rsl_session.proofs.Callers.{yielded-le}
use Rattle.rsl_rule.specs.Yielding.{IsFirstTouched, IsFreshAsk, HasYielded}
use Rattle.rsl_rule.proofs.Lowest.{IsAscending, ascending_filter, found_first, found_passes, held_before_ascends}

-- what is found is in the list
found_in : (p : ℕ → Bool) (xs : List ℕ) (x : ℕ) → find p xs ≡ Some x → Any (λ y. y ≡ x) xs
found_in p [] x found = cc
found_in p (y ∷ xs) x found = by_cases (p y) found (found_in p xs x) where
  by_cases : (here : Bool) → cond here (Some y) (find p xs) ≡ Some x → (find p xs ≡ Some x → Any (λ z. z ≡ x) xs) → Any (λ z. z ≡ x) (y ∷ xs)
  by_cases true found rest = (0, y, (omega arith), refl, cc)
  by_cases false found rest = let (k, z, within, is, same) = rest found in (suc k, z, (omega arith), is, same)

-- a link that is touched first was touched no later than each
all_later : (past : Past) (links : List ℕ) (link : ℕ) → is_touched_first past links link ≡ true → AllByRecursion (λ other. touched_at link past ≤ touched_at other past) links
unfolding is_touched_first
all_later past [] link first = tt
all_later past (other ∷ links) link first =
    let parts = and_parts (nat_le (touched_at link past) (touched_at other past)) (is_touched_first past links link) first in
    (leb-true _ _ parts.0, all_later past links link parts.1)

touched_first : (past : Past) (links : List ℕ) (link : ℕ) → is_touched_first past links link ≡ true → All (λ other. touched_at link past ≤ touched_at other past) links
touched_first past links link first =
    All-from_recursion (λ other. touched_at link past ≤ touched_at other past) links (all_later past links link first)

-- a link that was touched when the first was is touched first too, so the first opened before it
first_too : (past : Past) (links : List ℕ) (link one : ℕ) → is_touched_first past links link ≡ true → touched_at one past ≡ touched_at link past → is_touched_first past links one ≡ true
unfolding is_touched_first
first_too past links link one first alike = rw alike first

opened_first : (past : Past) (all links : List ℕ) (link : ℕ) → is_touched_first past all link ≡ true → AllByRecursion (λ one. is_touched_first past all one ≡ true → link ≤ one) links
    → AllByRecursion (λ one. touched_at one past ≡ touched_at link past → link ≤ one) links
opened_first past all [] link first older = tt
opened_first past all (one ∷ links) link first older = ((λ alike. older.0 (first_too past all link one first alike)), opened_first past all links link first older.1)

pub first_is : (past : Past) (links : List ℕ) (link : ℕ) → IsAscending links → first_touched past links ≡ Some link → IsFirstTouched past links link
unfolding first_touched
first_is past links link ascending found =
    let first : is_touched_first past links link ≡ true = found_passes (is_touched_first past links) links link found in record {
      was_one = found_in (is_touched_first past links) links link found;
      touched_first = touched_first past links link first;
      opened_first = All-from_recursion (λ one. touched_at one past ≡ touched_at link past → link ≤ one) links
          (opened_first past links links link first (found_first (is_touched_first past links) links link ascending found));
    }

-- the links of a station, and the idle ones, stand in the order in which they opened
pub station_links_ascend : (rules : Rules) (past : Past) (event : Event) → IsAscending (station_links rules past event)
unfolding station_links
station_links_ascend rules past event = ascending_filter _ (held_before rules past event) (held_before_ascends rules past event)

idle_links_ascend : (rules : Rules) (past : Past) (event : Event) → IsAscending (idle_links rules past event)
unfolding idle_links
idle_links_ascend rules past event = ascending_filter _ (held_before rules past event) (held_before_ascends rules past event)

-- it has ended
ended : (rules : Rules) (past : Past) (event : Event) (number link : ℕ) → outcome_of rules past event ≡ AcceptedInPlace number link → is_freed rules link (entry_of rules past event ∷ past) ≡ true
unfolding is_freed entry_of yields
ended rules past event number link is =
    let within : link ≤ length past = yielded-le rules past event number link is in
    rw (is, le-leb link (length past) within, eq-eqb link link refl) (either (is_freed rules link past) (ends rules past event link)) where
      either : (a b : Bool) → (a || (b || true)) ≡ true
      either true b = refl
      either false true = refl
      either false false = refl

module _ (rules : Rules) (past : Past) (event : Event) (number link : ℕ) where
  -- what a fresh ask found that made the link yield
  abbrev NoneReturns : Type 0
  NoneReturns = (other : ℕ) → station_link rules past event ≡ Some other → has_a_place_without rules past event other ≡ false

  abbrev Stale : Type 0
  Stale = (has_a_place rules past event ≡ false) × (yielding_link rules past event ≡ Some link)

  abbrev Found : Type 0
  Found = (station_link rules past event ≡ Some link) ⊎ (NoneReturns × Stale)

  without : (other : ℕ) (fits : Bool) → cond fits (AcceptedInPlace (accepts past) other) Refused ≡ AcceptedInPlace number link → other ≡ link
  without other true is = cc
  without other false is = cc

  unfitting : (found : Option ℕ) → yielding_link rules past event ≡ found → unfitting_outcome rules past event found ≡ AcceptedInPlace number link → yielding_link rules past event ≡ Some link
  unfitting None candidate is = cc
  unfitting (Some other) candidate is = candidate ∙ ap Some (without other (has_a_place_without rules past event other) is)

  by_place : (free : Bool) → has_a_place rules past event ≡ free
      → cond free (Accepted (accepts past)) (unfitting_outcome rules past event (yielding_link rules past event)) ≡ AcceptedInPlace number link → Stale
  by_place true free is = cc
  by_place false free is = (free, unfitting (yielding_link rules past event) refl is)

  placed : placed_outcome rules past event ≡ AcceptedInPlace number link → Stale
  unfolding placed_outcome
  placed is = by_place (has_a_place rules past event) refl is

  in_place : (other : ℕ) (fits : Bool) → station_link rules past event ≡ Some other → has_a_place_without rules past event other ≡ fits
      → cond fits (AcceptedInPlace (accepts past) other) (placed_outcome rules past event) ≡ AcceptedInPlace number link → Found
  in_place other true candidate fits is = let same : other ≡ link = cc in inl (candidate ∙ ap Some same)
  in_place other false candidate fits is =
      inr ((λ one found. let same : other ≡ one = cc in subst (λ one. has_a_place_without rules past event one ≡ false) same fits), placed is)

  returning : (found : Option ℕ) → station_link rules past event ≡ found → returning_outcome rules past event found ≡ AcceptedInPlace number link → Found
  returning None candidate is = inr ((λ one found. cc), placed is)
  returning (Some other) candidate is = in_place other (has_a_place_without rules past event other) candidate refl is

  fresh : fresh_outcome rules past event ≡ AcceptedInPlace number link → Found
  unfolding fresh_outcome
  fresh is = returning (station_link rules past event) refl is

  numbered : (left : Bool) → cond left (fresh_outcome rules past event) Refused ≡ AcceptedInPlace number link → Found
  numbered true is = fresh is
  numbered false is = cc

  of_ask : (found : Option KeptAsk) → ask_outcome rules past event found ≡ AcceptedInPlace number link → Found × (found ≡ None)
  of_ask (Some ask) is = cc
  of_ask None is = (numbered (nat_lt (accepts past) (2 ^ 64 - 1)) is, refl)

  opened : (room : Bool) → cond room Opened Over ≡ AcceptedInPlace number link → ⊥
  opened true is = cc
  opened false is = cc

  unbound : (found : Option ℕ) → unbound_outcome rules past event found ≡ AcceptedInPlace number link → ⊥
  unbound (Some other) is = cc
  unbound None is = opened (has_room rules past event) is

  open_or_closed : (closed : Bool) (found : Option ℕ) → cond closed Ignored (unbound_outcome rules past event found) ≡ AcceptedInPlace number link → ⊥
  open_or_closed true found is = cc
  open_or_closed false found is = unbound found is

  of_alive : (session : Session) (class found : Option ℕ) → alive_outcome rules past event session class found ≡ AcceptedInPlace number link → ⊥
  of_alive session class (Some other) is = cc
  of_alive session class None is = open_or_closed (is_closed rules past event session) (reservation_of rules past event session.nas class) is

  by_act : (act : Act) → event.act ≡ act → outcome_by rules past event act ≡ AcceptedInPlace number link → Found × IsFreshAsk rules past event
  by_act (Ask key nas station) asks is =
      let found = of_ask (repeated_ask rules past event key) is in
      (found.0, (record { key = key; nas = nas; station = station; asks = asks; repeats_none = found.1 }))
  by_act (Alive nas id bundle class station) asks is = absurd (of_alive _ class _ is)
  by_act (Stop nas id) asks is = cc
  by_act (Sweep nas delay) asks is = cc
  by_act Tick asks is = cc

  pub yielded_is : outcome_of rules past event ≡ AcceptedInPlace number link → HasYielded rules past event link
  unfolding outcome_of yielding_link station_link
  yielded_is is =
      let found = by_act event.act refl is in record {
        asked = found.1;
        was_first = elim found.0 [
          | inl returned ↦ inl (first_is past (station_links rules past event) link (station_links_ascend rules past event) returned)
          | inr stale ↦ inr (
            (record { no_place = stale.1.0; none_returns = stale.0 }),
            first_is past (idle_links rules past event) link (idle_links_ascend rules past event) stale.1.1,
          )
        ];
        has_ended = ended rules past event number link is;
      }
