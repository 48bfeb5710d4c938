-- Laws of the session rule, each the contract of a function of `laws`.
use Rattle.std.specs.Prelude.{◌≡◌, ℕ, suc, ◌-◌, ◌^◌, ◌<◌, ◌≤◌, List, [], ◌∷◌, ◌++◌, length, take, drop, map, reverse, insert, true, slice_index, All, Any, EachIndex, Option, Some, None}
use Rattle.std.specs.Option.{option_to_list}
use Rattle.rsl_accounts.specs.Limits.{RulesFit}
use Rattle.rsl_accounts.specs.declared.rules.Rules.{Rules}
use Rattle.rsl_event.specs.declared.event.Act.{Act}
use Rattle.rsl_event.specs.declared.event.Act.TheVariants.{Ask, Sweep, Tick}
use Rattle.rsl_event.specs.declared.event.Decision.{Decision}
use Rattle.rsl_event.specs.declared.event.Decision.TheVariants.{Done}
use Rattle.rsl_event.specs.declared.event.Event.{Event}
use Rattle.rsl_event.specs.declared.event.Key.{Key}
use Rattle.rsl_event.specs.declared.nas.Nas.{Nas}
use Rattle.rsl_session.specs.declared.past_event.PastEvent.{PastEvent}
use Rattle.rsl_session.specs.declared.outcome.Outcome.TheVariants.{AcceptedInPlace, Repeated}
use Rattle.rsl_session.specs.Past.{Past}
use Rattle.rsl_session.specs.declared.session.Session.{Session}
use Rattle.rsl_session.specs.Closed.{is_closed}
use Rattle.rsl_session.specs.Alive.{link_of, reservation_of}
use Rattle.rsl_session.specs.Ask.{accepts, fresh_decision}
use Rattle.rsl_session.specs.Link.{number_at, number_of}
use Rattle.rsl_rule.specs.Sweeping.{HasSwept}
use Rattle.rsl_rule.specs.Yielding.{FindsItsPlace, HasYielded, IsFreshAsk}
use Rattle.rsl_session.specs.Rule.{IsRuled, decisions, outcome_of, past_of, places_after}

-- after each event of a list, the places are at most the account's
abbrev pub PlacesStayWithinTheLimit : Type 0
PlacesStayWithinTheLimit = (rules : Rules) (events : List Event) (n : ℕ) → RulesFit rules
    → places_after rules (take n events) ≤ rules.places

-- the past of a list of events has its events, newest first, and each did what the rule says for
-- what came before it
abbrev pub PastsFollowTheRule : Type 0
PastsFollowTheRule = (rules : Rules) (events : List Event)
    → IsRuled rules (past_of rules events)
    × (map (λ (entry : PastEvent). entry.event) (past_of rules events) ≡ reverse events)

-- two pasts of the same events that follow the rule are equal
abbrev pub OnePastFollowsTheRule : Type 0
OnePastFollowsTheRule = (rules : Rules) (one other : Past) → IsRuled rules one → IsRuled rules other
    → map (λ (entry : PastEvent). entry.event) one ≡ map (λ (entry : PastEvent). entry.event) other
    → one ≡ other

-- an alive with no class takes the reservation at its access server with the lowest number
abbrev pub LowestReservationIsTaken : Type 0
LowestReservationIsTaken =
    (rules : Rules) (events : List Event) (event : Event) (nas : Nas) (link other a b : ℕ)
    → reservation_of rules (past_of rules events) event nas None ≡ Some link
    → number_at link (past_of rules events) ≡ Some a
    → reservation_of rules (past_of rules events) event nas (Some b) ≡ Some other → a ≤ b

-- a link that yields to an event was of the station that asks, or stale where no place was free; no
-- other such link was touched before it, and of those touched when it was it opened first; and the
-- places after the event are at most the account's
abbrev pub LinksYieldInTurn : Type 0
LinksYieldInTurn =
    (rules : Rules) (events : List Event) (event : Event) (number link : ℕ) → RulesFit rules
    → outcome_of rules (past_of rules events) event ≡ AcceptedInPlace number link
    → HasYielded rules (past_of rules events) event link
    × (places_after rules (events ++ event ∷ []) ≤ rules.places)

-- a fresh ask, while accept numbers are left, ends the link of its station that is first in turn, if
-- the others leave a place; else, as without a station, the free places and the idle links decide
abbrev pub StationsFindTheirPlace : Type 0
StationsFindTheirPlace = (rules : Rules) (events : List Event) (event : Event)
    → IsFreshAsk rules (past_of rules events) event
    → accepts (past_of rules events) < 2 ^ 64 - 1
    → FindsItsPlace rules (past_of rules events) event

-- after a sweep exactly those links are held that were held as it came and are at another access
-- server, or opened less than its delay ago; so without a delay none at its own
abbrev pub LateRestartsSpareWhatIsNewer : Type 0
LateRestartsSpareWhatIsNewer =
    (rules : Rules) (events : List Event) (event : Event) (nas : Nas) (delay : ℕ)
    → event.act ≡ Sweep nas delay → HasSwept rules (past_of rules events) event nas delay

-- a closed session has no held link, so of an alive's first two cases at most one applies
abbrev pub ClosedSessionsHoldNoLink : Type 0
ClosedSessionsHoldNoLink = (rules : Rules) (events : List Event) (event : Event) (session : Session)
    → is_closed rules (past_of rules events) event session ≡ true
    → link_of rules (past_of rules events) event session ≡ None

-- the accept numbers of the accepted fresh asks, in order
unfoldable pub accept_numbers : Past → List ℕ
accept_numbers [] = []
accept_numbers (entry ∷ past) = accept_numbers past ++ option_to_list (number_of entry.outcome)

-- accept numbers count up from 0 without a gap
abbrev pub AcceptNumbersCountUp : Type 0
AcceptNumbersCountUp = (rules : Rules) (events : List Event)
    → EachIndex (accept_numbers (past_of rules events))
    (λ k. slice_index (accept_numbers (past_of rules events)) k ≡ k)

-- the key of an ask
abbrev pub key_of : Act → Option Key
key_of (Ask key nas station) = Some key
key_of _ = None

-- a fresh ask of a key got this decision
pub record IsFreshDecision (key : Option Key) (decision : Decision) (entry : PastEvent)
    : Type 0 where
  pub same_key : key_of entry.event.act ≡ key
  pub decided : fresh_decision entry.outcome ≡ Some decision

-- a repeat gets the decision of an earlier fresh ask of its key
abbrev pub RepeatsAreDecidedAsAFreshAsk : Type 0
RepeatsAreDecidedAsAFreshAsk =
    (rules : Rules) (events : List Event) (event : Event) (decision : Decision)
    → outcome_of rules (past_of rules events) event ≡ Repeated decision
    → Any (IsFreshDecision (key_of event.act) decision) (past_of rules events)

-- a tick inserted into a list where no later event has a lower moment leaves every decision as it
-- was, and the places after each later event
abbrev pub EarlyTicksChangeNoDecision : Type 0
EarlyTicksChangeNoDecision =
    (rules : Rules) (events : List Event) (n moment : ℕ) → n ≤ length events
    → All (λ (event : Event). moment ≤ event.moment) (drop n events)
    → (decisions rules (insert events n (record { moment = moment; act = Tick })) ≡ insert
    (decisions rules events) n Done)
    × ((k : ℕ) → n < k → k ≤ length events
    → places_after rules (take (suc k) (insert events n (record { moment = moment; act = Tick })))
    ≡ places_after rules (take k events))
