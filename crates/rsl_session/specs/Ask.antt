-- An ask is a repeat if one of the last 8 fresh asks has its key, is less than the keep time old,
-- and was not voided by a sweep since. It gets the decision of the latest such ask. Every other ask
-- is fresh. The link of its station touched longest ago yields, if the places without it
-- leave room for another: then the ask is accepted, and opens a reserved link. If none does, it is
-- accepted if another place is free. If none is, the idle link touched longest ago yields, if the
-- places without it leave room for another. No other link is tried, and one yields at most.
use Rattle.std.specs.Prelude.{ℕ, ◌+◌, ◌-◌, ◌^◌, List, [], ◌∷◌, filter, Bool, ◌&&◌, ◌==◌, not, nat_lt, nat_le, find, count_by, take, if◌then◌else◌, is_some, Option, Some, None}
use Rattle.std.specs.List.{list_all, cons_option}
use Rattle.rsl_accounts.specs.declared.rules.Rules.{Rules}
use Rattle.rsl_event.specs.declared.event.Act.{Act}
use Rattle.rsl_event.specs.declared.event.Act.TheVariants.{Ask}
use Rattle.rsl_event.specs.declared.event.Decision.{Decision}
use Rattle.rsl_event.specs.declared.event.Decision.TheVariants.{Accept, LimitReject}
use Rattle.rsl_event.specs.declared.event.Event.{Event}
use Rattle.rsl_event.specs.declared.event.Key.{Key}
use Rattle.rsl_session.specs.declared.outcome.Outcome.{Outcome}
use Rattle.rsl_session.specs.declared.outcome.Outcome.TheVariants.{Accepted, AcceptedInPlace, Refused, Repeated}
use Rattle.rsl_session.specs.declared.kept.KeptAsk.{KeptAsk}
use Rattle.rsl_session.specs.Past.{Past}
use Rattle.rsl_session.specs.Same.{same_key}
use Rattle.rsl_session.specs.Sweep.{swept_in}
use Rattle.rsl_session.specs.Clock.{clock, clock_at}
use Rattle.rsl_session.specs.Link.{number_of}
use Rattle.rsl_session.specs.Touch.{touched_at}
use Rattle.rsl_session.specs.Station.{is_of_station, station_of}
use Rattle.rsl_session.specs.Lapse.{is_idle}
use Rattle.rsl_session.specs.Held.{held_before}
use Rattle.rsl_session.specs.Places.{places_of, bundles}

-- how many of the last fresh asks can be repeated
abbrev pub KEPT_ASKS : ℕ
KEPT_ASKS = 8

-- the decision on a fresh ask
unfoldable pub fresh_decision : Outcome → Option Decision
fresh_decision (Accepted number) = Some (Accept number)
fresh_decision (AcceptedInPlace number yielded) = Some (Accept number)
fresh_decision Refused = Some LimitReject
fresh_decision _ = None

-- a fresh ask as it is kept, with its clock and whether a sweep since voided it
abbrev pub kept_ask : ℕ → List (ℕ × Act) → Act → Option Decision → Option KeptAsk
kept_ask now since (Ask key nas station) (Some decision) =
    Some (record
    { key = key; nas = nas; decision = decision; at = now; swept = swept_in since nas now })
kept_ask now since act decision = None

-- the fresh asks of a past, newest first, where these acts came since, each with its clock
unfoldable pub fresh_asks : List (ℕ × Act) → Past → List KeptAsk
fresh_asks since [] = []
fresh_asks since (entry ∷ past) =
    cons_option
    (kept_ask (clock (entry ∷ past)) since entry.event.act (fresh_decision entry.outcome))
    (fresh_asks ((clock (entry ∷ past), entry.event.act) ∷ since) past)

-- whether an ask of this key, at this clock, repeats a fresh ask
unfoldable pub repeats : Rules → Key → ℕ → KeptAsk → Bool
repeats rules key now ask =
    same_key ask.key key && nat_lt (now - ask.at) rules.keep && not ask.swept

-- the latest fresh ask that an ask of this key repeats
unfoldable pub repeated_ask : Rules → Past → Event → Key → Option KeptAsk
repeated_ask rules past event key =
    find (repeats rules key (clock_at past event)) (take KEPT_ASKS (fresh_asks [] past))

-- how many fresh asks were accepted
unfoldable pub accepts : Past → ℕ
accepts past = count_by (λ entry. is_some (number_of entry.outcome)) past

-- whether another link without a bundle can open beside some links
unfoldable pub has_place_beside : Rules → Past → List ℕ → Bool
has_place_beside rules past links =
    nat_le (places_of rules.ports (bundles past links) + 1) rules.places

-- whether another link without a bundle can open
unfoldable pub has_a_place : Rules → Past → Event → Bool
has_a_place rules past event = has_place_beside rules past (held_before rules past event)

-- the links that are idle when an event comes
unfoldable pub idle_links : Rules → Past → Event → List ℕ
idle_links rules past event = filter (is_idle rules past event) (held_before rules past event)

-- whether none of some links was touched before this one
unfoldable pub is_touched_first : Past → List ℕ → ℕ → Bool
is_touched_first past links link =
    list_all (λ other. nat_le (touched_at link past) (touched_at other past)) links

-- of some links the one touched longest ago, and of several the first that opened
unfoldable pub first_touched : Past → List ℕ → Option ℕ
first_touched past links = find (is_touched_first past links) links

-- the idle link that can yield
unfoldable pub yielding_link : Rules → Past → Event → Option ℕ
yielding_link rules past event = first_touched past (idle_links rules past event)

-- the links of the station that asks when an event comes
unfoldable pub station_links : Rules → Past → Event → List ℕ
station_links rules past event =
    filter (is_of_station past (station_of event.act)) (held_before rules past event)

-- of these the one that can yield
unfoldable pub station_link : Rules → Past → Event → Option ℕ
station_link rules past event = first_touched past (station_links rules past event)

-- the held links without this one
unfoldable pub held_without : Rules → Past → Event → ℕ → List ℕ
held_without rules past event link =
    filter (λ other. not (other == link)) (held_before rules past event)

-- whether another link without a bundle can open once this one has ended
unfoldable pub has_a_place_without : Rules → Past → Event → ℕ → Bool
has_a_place_without rules past event link =
    has_place_beside rules past (held_without rules past event link)

-- what a fresh ask does if no place is free, by the link that can yield
abbrev pub unfitting_outcome : Rules → Past → Event → Option ℕ → Outcome
unfitting_outcome rules past event None = Refused
unfitting_outcome rules past event (Some link) =
    if has_a_place_without rules past event link
    then AcceptedInPlace (accepts past) link
    else Refused

-- what a fresh ask does if no link of its station yields
unfoldable pub placed_outcome : Rules → Past → Event → Outcome
placed_outcome rules past event =
    if has_a_place rules past event
    then Accepted (accepts past)
    else unfitting_outcome rules past event (yielding_link rules past event)

-- what a fresh ask does, by the link of its station that can yield
abbrev pub returning_outcome : Rules → Past → Event → Option ℕ → Outcome
returning_outcome rules past event None = placed_outcome rules past event
returning_outcome rules past event (Some link) =
    if has_a_place_without rules past event link
    then AcceptedInPlace (accepts past) link
    else placed_outcome rules past event

-- what a fresh ask does, if there is an accept number left for it
unfoldable pub fresh_outcome : Rules → Past → Event → Outcome
fresh_outcome rules past event =
    returning_outcome rules past event (station_link rules past event)

-- what an ask does, by the fresh ask that it repeats
abbrev pub ask_outcome : Rules → Past → Event → Option KeptAsk → Outcome
ask_outcome rules past event (Some ask) = Repeated ask.decision
ask_outcome rules past event None =
    if nat_lt (accepts past) (2 ^ 64 - 1) then fresh_outcome rules past event else Refused
