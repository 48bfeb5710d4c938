-- What is known of a link that yields.
use Rattle.std.specs.Prelude.{◌≡◌, ◌⊎◌, ◌↔◌, ℕ, ◌∷◌, ◌<◌, ◌≤◌, List, true, false, not, ◌==◌, filter, if◌then◌else◌, All, Any, Contains, Option, Some, None}
use Rattle.rsl_accounts.specs.declared.rules.Rules.{Rules}
use Rattle.rsl_event.specs.declared.event.Act.TheVariants.{Ask}
use Rattle.rsl_event.specs.declared.event.Event.{Event}
use Rattle.rsl_event.specs.declared.event.Key.{Key}
use Rattle.rsl_event.specs.declared.nas.Nas.{Nas}
use Rattle.rsl_session.specs.declared.outcome.Outcome.TheVariants.{AcceptedInPlace}
use Rattle.rsl_session.specs.Past.{Past}
use Rattle.rsl_session.specs.Touch.{touched_at}
use Rattle.rsl_session.specs.Station.{station_at, station_of}
use Rattle.rsl_session.specs.Held.{held_before, is_freed}
use Rattle.rsl_session.specs.Places.{bundles, places_of}
use Rattle.rsl_session.specs.Ask.{accepts, has_a_place, has_a_place_without, has_place_beside, held_without, idle_links, placed_outcome, repeated_ask, station_link, station_links}
use Rattle.rsl_session.specs.Rule.{entry_of, outcome_of}

-- the link that can yield, if another without a bundle can open beside the other held links
abbrev pub making_room : Rules → Past → (held : List ℕ) → Option ℕ → Option ℕ
making_room rules past held None = None
making_room rules past held (Some link) =
    if has_place_beside rules past (filter (λ other. not (other == link)) held)
    then Some link
    else None

-- an event is an ask that repeats none
pub record IsFreshAsk (rules : Rules) (past : Past) (event : Event) : Type 0 where
  pub key : Key
  pub nas : Nas
  pub station : Option (List ℕ)
  pub asks : event.act ≡ Ask key nas station
  pub repeats_none : repeated_ask rules past event key ≡ None

-- a link is one of these, none of them was touched before it, and of those touched when it was it
-- opened first
pub record IsFirstTouched (past : Past) (links : List ℕ) (link : ℕ) : Type 0 where
  pub was_one : Any (λ one. one ≡ link) links
  pub touched_first : All (λ one. touched_at link past ≤ touched_at one past) links
  -- links have their numbers in the order in which they opened
  pub opened_first : All (λ one. touched_at one past ≡ touched_at link past → link ≤ one) links

-- a link is of the station that an event names: it was last touched with that one
pub record IsOfItsStation (past : Past) (event : Event) (link : ℕ) : Type 0 where
  pub station : List ℕ
  pub named : station_of event.act ≡ Some station
  pub touched_with : station_at link past ≡ Some station

-- a link can make room for the station that asks: of the links of that station it is first in turn,
-- and the other held links leave a place
pub record CanMakeRoom (rules : Rules) (past : Past) (event : Event) (link : ℕ) : Type 0 where
  pub first_in_turn : IsFirstTouched past (station_links rules past event) link
  pub leaves_a_place :
      places_of rules.ports (bundles past (held_without rules past event link)) < rules.places

-- an event finds the place of its station
pub record FindsItsPlace (rules : Rules) (past : Past) (event : Event) : Type 0 where
  -- the links of its station are those of it that are held when it comes
  pub of_station : (link : ℕ) → Contains (station_links rules past event) link
      ↔ (Contains (held_before rules past event) link × IsOfItsStation past event link)
  -- a link that can make room yields, whether or not a place is free
  pub in_place : (link : ℕ) → CanMakeRoom rules past event link
      → outcome_of rules past event ≡ AcceptedInPlace (accepts past) link
  -- where none can, the free places and the idle links decide
  pub placed : ((link : ℕ) → CanMakeRoom rules past event link → ⊥)
      → outcome_of rules past event ≡ placed_outcome rules past event
  -- and so where the event names no station
  pub without_station : station_of event.act ≡ None
      → outcome_of rules past event ≡ placed_outcome rules past event

-- an ask did not fit: no place was free, and no link of its station would make room
pub record DidNotFit (rules : Rules) (past : Past) (event : Event) : Type 0 where
  pub no_place : has_a_place rules past event ≡ false
  pub none_returns : (other : ℕ) → station_link rules past event ≡ Some other
      → has_a_place_without rules past event other ≡ false

-- a link yields to an event
pub record HasYielded (rules : Rules) (past : Past) (event : Event) (link : ℕ) : Type 0 where
  -- the event is a fresh ask
  pub asked : IsFreshAsk rules past event
  -- the link was held and of the station that asks; or the ask did not fit, and it was held and idle.
  -- No other such link was touched before it, nor one touched when it was opened before it
  pub was_first : IsFirstTouched past (station_links rules past event) link
      ⊎ (DidNotFit rules past event × IsFirstTouched past (idle_links rules past event) link)
  -- and it has ended
  pub has_ended : is_freed rules link (entry_of rules past event ∷ past) ≡ true
