-- What is asked of held links by how each stands, in the words of the definitions.
use Rattle.std.proofs.Common.{◌≡◌, ℕ, List, [], ◌∷◌, ◌++◌, map, Bool, true, false, cond, ◌&&◌, ◌||◌, not, refl, ap, ◌∙◌}
use Rattle.std.specs.Prelude.{Option, Some, None, filter, find, nat_le}
use Rattle.std.specs.List.{list_all}
use Rattle.std.specs.Option.{option_map}
use Rattle.rsl_accounts.specs.declared.rules.Rules.{Rules}
use Rattle.rsl_event.specs.declared.event.Event.{Event}
use Rattle.rsl_event.specs.declared.nas.Nas.{Nas}
use Rattle.rsl_session.specs.declared.session.Session.{Session}
use Rattle.rsl_session.specs.Past.{Past}
use Rattle.rsl_session.specs.Clock.{clock_at}
use Rattle.rsl_session.specs.Touch.{touched_at}
use Rattle.rsl_session.specs.Station.{is_of_station, station_of}
use Rattle.rsl_session.specs.Binding.{bundle_of, is_session, is_bound_to, is_reserved}
use Rattle.rsl_session.specs.Held.{held_before}
use Rattle.rsl_session.specs.Lapse.{is_idle}
use Rattle.rsl_session.specs.declared.outcome.Outcome.TheVariants.{Accepted, AcceptedInPlace, Refused}
use Rattle.rsl_session.specs.declared.outcome.Outcome.{Outcome}
use Rattle.rsl_session.specs.Ask.{accepts, first_touched, fresh_outcome, has_a_place, has_a_place_without, has_place_beside, held_without, idle_links, is_touched_first, placed_outcome, returning_outcome, station_link, station_links, unfitting_outcome, yielding_link}
use Rattle.rsl_session.specs.declared.bundle.Bundle.{Bundle}
use Rattle.rsl_session.specs.Places.{bundles, places_of}
use Rattle.rsl_session.specs.Alive.{has_room, link_of, is_chosen, reservation_of}
use Rattle.rsl_rule.specs.Standing.{standing_of, link_where, is_candidate_so, is_first_so, is_yielding_so, can_be_taken_so}
use Rattle.rsl_rule.specs.Yielding.{making_room}
use Rattle.rsl_rule.specs.declared.yielding.Candidates.{Candidates}
use Rattle.rsl_rule.specs.declared.yielding.Candidates.TheVariants.{OfStation, Idle}
use Rattle.rsl_rule.specs.Holding.{standings}
use Rattle.rsl_rule.specs.declared.holding.HeldLink.{HeldLink}

-- a link with how it stands after a past
pub so : Past → ℕ → HeldLink
so past link = record { link = link; standing = standing_of link past }

number : HeldLink → ℕ
number one = one.link

-- the numbers of links that stand so
pub numbers : (past : Past) (links : List ℕ) → map (λ (one : HeldLink). one.link) (standings past links) ≡ links
unfolding standings
numbers past [] = refl
numbers past (link ∷ links) = ap (λ ls. link ∷ ls) (numbers past links)

-- the first of them that passes a test
pub found : (past : Past) (test : ℕ → Bool) (so_test : HeldLink → Bool) → ((link : ℕ) → so_test (so past link) ≡ test link) → (links : List ℕ) → link_where so_test (standings past links) ≡ find test links
unfolding standings so number
found past test so_test same [] = refl
found past test so_test same (link ∷ links) = by_cases (so_test (so past link)) (test link) (same link) (found past test so_test same links) where
  by_cases : (a b : Bool) → a ≡ b → link_where so_test (standings past links) ≡ find test links
      → option_map number (cond a (Some (so past link)) (find so_test (standings past links))) ≡ cond b (Some link) (find test links)
  by_cases true true is rest = refl
  by_cases false false is rest = rest
  by_cases true false is rest = cc
  by_cases false true is rest = cc

-- the link that a session is bound to
pub bound : (rules : Rules) (past : Past) (event : Event) (session : Session) (held : List HeldLink) → held ≡ standings past (held_before rules past event)
    → link_where (λ (one : HeldLink). is_session one.standing.session session) held ≡ link_of rules past event session
unfolding link_of so standing_of is_bound_to
bound rules past event session held is =
    ap (link_where (λ (one : HeldLink). is_session one.standing.session session)) is
    ∙ found past (is_bound_to past session) (λ (one : HeldLink). is_session one.standing.session session) (same past session) (held_before rules past event) where
      same : (past : Past) (session : Session) (link : ℕ) → is_session (so past link).standing.session session ≡ is_bound_to past session link
      same past session link = refl

-- the reservation that an alive takes
pub taken : (rules : Rules) (past : Past) (event : Event) (nas : Nas) (class : Option ℕ) (held : List HeldLink) → held ≡ standings past (held_before rules past event)
    → link_where (can_be_taken_so past nas class) held ≡ reservation_of rules past event nas class
unfolding reservation_of so standing_of is_chosen is_reserved
taken rules past event nas class held is =
    ap (link_where (can_be_taken_so past nas class)) is ∙ found past (is_chosen past nas class) (can_be_taken_so past nas class) (same past nas class) (held_before rules past event) where
      same : (past : Past) (nas : Nas) (class : Option ℕ) (link : ℕ) → can_be_taken_so past nas class (so past link) ≡ is_chosen past nas class link
      same past nas class link = refl

-- the candidate that can yield
find_among : (past : Past) (among test : ℕ → Bool) (so_test : HeldLink → Bool) → ((link : ℕ) → so_test (so past link) ≡ (among link && test link)) → (links : List ℕ)
    → link_where so_test (standings past links) ≡ find test (filter among links)
unfolding standings so number
find_among past among test so_test same [] = refl
find_among past among test so_test same (link ∷ links) = by_cases (so_test (so past link)) (among link) (test link) (same link) refl (find_among past among test so_test same links) where
  by_cases : (a b c : Bool) → a ≡ (b && c) → test link ≡ c → link_where so_test (standings past links) ≡ find test (filter among links)
      → option_map number (cond a (Some (so past link)) (find so_test (standings past links))) ≡ find test (cond b (link ∷ filter among links) (filter among links))
  by_cases a true c both is rest = rw (both, is) (last c) where
    last : (c : Bool) → option_map number (cond c (Some (so past link)) (find so_test (standings past links))) ≡ cond c (Some link) (find test (filter among links))
    last true = refl
    last false = rest
  by_cases a false c both is rest = rw both rest

all_among : (past : Past) (among test : ℕ → Bool) (so_test : HeldLink → Bool) → ((link : ℕ) → so_test (so past link) ≡ (test link || not (among link))) → (links : List ℕ)
    → list_all so_test (standings past links) ≡ list_all test (filter among links)
unfolding standings so
all_among past among test so_test same [] = refl
all_among past among test so_test same (link ∷ links) = by_cases (so_test (so past link)) (among link) (test link) (same link) refl (all_among past among test so_test same links) where
  by_cases : (a b c : Bool) → a ≡ (c || not b) → test link ≡ c → list_all so_test (standings past links) ≡ list_all test (filter among links)
      → (a && list_all so_test (standings past links)) ≡ list_all test (cond b (link ∷ filter among links) (filter among links))
  by_cases a true true both is rest = rw (both, is) rest
  by_cases a true false both is rest = rw (both, is) refl
  by_cases a false true both is rest = rw both rest
  by_cases a false false both is rest = rw both rest

-- whether a link is one of the candidates when an event comes
abbrev pub is_candidate : Rules → Past → Event → Candidates → ℕ → Bool
is_candidate rules past event OfStation link = is_of_station past (station_of event.act) link
is_candidate rules past event Idle link = is_idle rules past event link

candidate_so : (rules : Rules) (past : Past) (event : Event) (candidates : Candidates) (link : ℕ)
    → is_candidate_so rules past event candidates (so past link) ≡ is_candidate rules past event candidates link
unfolding so standing_of is_idle clock_at
candidate_so rules past event OfStation link = refl
candidate_so rules past event Idle link = refl

first_so : (rules : Rules) (past : Past) (event : Event) (candidates : Candidates) (links : List ℕ) (link : ℕ)
    → is_first_so rules past event candidates (standings past links) (touched_at link past) ≡ is_touched_first past (filter (is_candidate rules past event candidates) links) link
unfolding is_touched_first so standing_of
first_so rules past event candidates links link =
    all_among past (is_candidate rules past event candidates) (λ other. nat_le (touched_at link past) (touched_at other past))
    (λ (other : HeldLink). nat_le (touched_at link past) other.standing.touched || not (is_candidate_so rules past event candidates other)) same links where
      same : (other : ℕ) → (nat_le (touched_at link past) (so past other).standing.touched || not (is_candidate_so rules past event candidates (so past other)))
          ≡ (nat_le (touched_at link past) (touched_at other past) || not (is_candidate rules past event candidates other))
      same other = ap (λ is. nat_le (touched_at link past) (touched_at other past) || not is) (candidate_so rules past event candidates other)

yielding : (rules : Rules) (past : Past) (event : Event) (candidates : Candidates) (held : List HeldLink) → held ≡ standings past (held_before rules past event)
    → link_where (is_yielding_so rules past event candidates held) held ≡ first_touched past (filter (is_candidate rules past event candidates) (held_before rules past event))
unfolding first_touched so standing_of
yielding rules past event candidates held is =
    ap (λ (xs : List HeldLink). link_where (is_yielding_so rules past event candidates xs) xs) is
    ∙ find_among past (is_candidate rules past event candidates) (is_touched_first past (filter (is_candidate rules past event candidates) (held_before rules past event)))
    (is_yielding_so rules past event candidates (standings past (held_before rules past event))) same (held_before rules past event) where
      same : (link : ℕ) → is_yielding_so rules past event candidates (standings past (held_before rules past event)) (so past link)
          ≡ (is_candidate rules past event candidates link && is_touched_first past (filter (is_candidate rules past event candidates) (held_before rules past event)) link)
      same link = rw (candidate_so rules past event candidates link, first_so rules past event candidates (held_before rules past event) link) refl

-- it is the link of the station that asks, or the idle one
pub returning : (rules : Rules) (past : Past) (event : Event) (held : List HeldLink) → held ≡ standings past (held_before rules past event)
    → link_where (is_yielding_so rules past event OfStation held) held ≡ station_link rules past event
unfolding station_link station_links
returning rules past event held is = yielding rules past event OfStation held is

pub idling : (rules : Rules) (past : Past) (event : Event) (held : List HeldLink) → held ≡ standings past (held_before rules past event)
    → link_where (is_yielding_so rules past event Idle held) held ≡ yielding_link rules past event
unfolding yielding_link idle_links
idling rules past event held is = yielding rules past event Idle held is

-- the numbers of the links that are still held, and the link of them that makes room, by what was looked up
pub held_numbers : (rules : Rules) (past : Past) (event : Event) (held : List HeldLink) (links : List ℕ) → held ≡ standings past (held_before rules past event)
    → links ≡ map (λ (one : HeldLink). one.link) held → links ≡ held_before rules past event
held_numbers rules past event held links is each =
    each ∙ ap (map (λ (one : HeldLink). one.link)) is ∙ numbers past (held_before rules past event)

pub room_found : (rules : Rules) (past : Past) (event : Event) (links : List ℕ) (candidate known yielded : Option ℕ) → links ≡ held_before rules past event
    → candidate ≡ known → yielded ≡ making_room rules past links candidate → yielded ≡ making_room rules past (held_before rules past event) known
room_found rules past event links candidate known yielded held same found =
    found ∙ ap (λ (ls : List ℕ). making_room rules past ls candidate) held ∙ ap (making_room rules past (held_before rules past event)) same

-- what a fresh ask does, by the link of its station that makes room, whether a place is free, and the
-- idle link that makes room
by_room : ℕ → Option ℕ → Bool → Option ℕ → Outcome
by_room number (Some link) free idle = AcceptedInPlace number link
by_room number None true idle = Accepted number
by_room number None false (Some link) = AcceptedInPlace number link
by_room number None false None = Refused

module _ (rules : Rules) (past : Past) (event : Event) (number : ℕ) (next : number ≡ accepts past) where
  -- the link that makes room, of the one that can yield
  abbrev room_by : Option ℕ → Option ℕ
  room_by candidate = making_room rules past (held_before rules past event) candidate

  unfitting : (candidate : Option ℕ) → by_room number None false (room_by candidate) ≡ unfitting_outcome rules past event candidate
  unfolding by_room has_a_place_without held_without
  unfitting None = refl
  unfitting (Some link) = by_cases (has_a_place_without rules past event link) where
    by_cases : (fits : Bool) → by_room number None false (cond fits (Some link) None) ≡ cond fits (AcceptedInPlace (accepts past) link) Refused
    by_cases true = ap (λ n. AcceptedInPlace n link) next
    by_cases false = refl

  placed : (free : Bool) (candidate : Option ℕ) → by_room number None free (room_by candidate) ≡ cond free (Accepted (accepts past)) (unfitting_outcome rules past event candidate)
  unfolding by_room
  placed true candidate = ap Accepted next
  placed false candidate = unfitting candidate

  returned : (candidate : Option ℕ) → by_room number (room_by candidate) (has_a_place rules past event) (room_by (yielding_link rules past event)) ≡ returning_outcome rules past event candidate
  unfolding by_room placed_outcome has_a_place_without held_without
  returned None = placed (has_a_place rules past event) (yielding_link rules past event)
  returned (Some link) = by_cases (has_a_place_without rules past event link) where
    by_cases : (fits : Bool) → by_room number (cond fits (Some link) None) (has_a_place rules past event) (room_by (yielding_link rules past event))
        ≡ cond fits (AcceptedInPlace (accepts past) link) (placed_outcome rules past event)
    by_cases true = ap (λ n. AcceptedInPlace n link) next
    by_cases false = placed (has_a_place rules past event) (yielding_link rules past event)

  decided : (returns : Option ℕ) (free : Bool) (idle : Option ℕ) → returns ≡ room_by (station_link rules past event) → free ≡ has_a_place rules past event → idle ≡ room_by (yielding_link rules past event)
      → by_room number returns free idle ≡ fresh_outcome rules past event
  unfolding fresh_outcome
  decided returns free idle first place last = rw (first, place, last) (returned (station_link rules past event))

  pub fits_returning : (link : ℕ) → Some link ≡ room_by (station_link rules past event) → AcceptedInPlace number link ≡ fresh_outcome rules past event
  unfolding by_room
  fits_returning link first = decided (Some link) (has_a_place rules past event) (room_by (yielding_link rules past event)) first refl refl

  pub fits : None ≡ room_by (station_link rules past event) → true ≡ has_a_place rules past event → Accepted number ≡ fresh_outcome rules past event
  unfolding by_room
  fits first place = decided None true (room_by (yielding_link rules past event)) first place refl

  pub fits_in_place : (link : ℕ) → None ≡ room_by (station_link rules past event) → false ≡ has_a_place rules past event → Some link ≡ room_by (yielding_link rules past event)
      → AcceptedInPlace number link ≡ fresh_outcome rules past event
  unfolding by_room
  fits_in_place link first place last = decided None false (Some link) first place last

  pub fits_nowhere : None ≡ room_by (station_link rules past event) → false ≡ has_a_place rules past event → None ≡ room_by (yielding_link rules past event)
      → Refused ≡ fresh_outcome rules past event
  unfolding by_room
  fits_nowhere first place last = decided None false None first place last

-- whether one more link with the event's bundle can open, by what was looked up
pub room : (rules : Rules) (past : Past) (event : Event) (links : List ℕ) (each : List (Option Bundle)) (places : ℕ) → links ≡ held_before rules past event
    → each ≡ bundles past links ++ bundle_of event.act ∷ [] → places ≡ places_of rules.ports each → nat_le places rules.places ≡ has_room rules past event
unfolding has_room
room rules past event links each places held found taken = rw (taken, found, held) refl

-- whether a place is free, by what was looked up
pub free_now : (rules : Rules) (past : Past) (event : Event) (links : List ℕ) (free : Bool) → links ≡ held_before rules past event → free ≡ has_place_beside rules past links
    → free ≡ has_a_place rules past event
unfolding has_a_place
free_now rules past event links free held is = is ∙ ap (has_place_beside rules past) held
