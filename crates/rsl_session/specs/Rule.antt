-- The session rule: what each event of an account does, the decision on it, and the places held.
use Rattle.std.specs.Prelude.{◌≡◌, ℕ, List, [], ◌∷◌, ⊤}
use Rattle.rsl_accounts.specs.declared.rules.Rules.{Rules}
use Rattle.rsl_event.specs.declared.event.Act.{Act}
use Rattle.rsl_event.specs.declared.event.Act.TheVariants.{Ask, Alive}
use Rattle.rsl_event.specs.declared.event.Decision.{Decision}
use Rattle.rsl_event.specs.declared.event.Decision.TheVariants.{Accept, LimitReject, Done}
use Rattle.rsl_event.specs.declared.event.Event.{Event}
use Rattle.rsl_session.specs.declared.past_event.PastEvent.{PastEvent}
use Rattle.rsl_session.specs.declared.outcome.Outcome.{Outcome}
use Rattle.rsl_session.specs.declared.outcome.Outcome.TheVariants.{Accepted, AcceptedInPlace, Refused, Repeated, Passed}
use Rattle.rsl_session.specs.Past.{Past}
use Rattle.rsl_session.specs.Places.{places}
use Rattle.rsl_session.specs.Ask.{ask_outcome, repeated_ask}
use Rattle.rsl_session.specs.Alive.{alive_outcome, link_of}

-- what an event does, by its act
abbrev pub outcome_by : Rules → Past → Event → Act → Outcome
outcome_by rules past event (Ask key nas station) =
    ask_outcome rules past event (repeated_ask rules past event key)
outcome_by rules past event (Alive nas id bundle class station) =
    alive_outcome rules past event (record { nas = nas; id = id }) class
    (link_of rules past event (record { nas = nas; id = id }))
outcome_by rules past event _ = Passed

unfoldable pub outcome_of : Rules → Past → Event → Outcome
outcome_of rules past event = outcome_by rules past event event.act

-- the decision on an event, by what it did
abbrev pub decision_of : Outcome → Decision
decision_of (Accepted number) = Accept number
decision_of (AcceptedInPlace number yielded) = Accept number
decision_of Refused = LimitReject
decision_of (Repeated decision) = decision
decision_of _ = Done

-- the entry that an event makes
unfoldable pub entry_of : Rules → Past → Event → PastEvent
entry_of rules past event = record { event = event; outcome = outcome_of rules past event }

-- each event of a past did what the rule says for what came before it
unfoldable pub IsRuled : Rules → Past → Type 0
IsRuled rules [] = ⊤
IsRuled rules (entry ∷ past) =
    (entry.outcome ≡ outcome_of rules past entry.event) × IsRuled rules past

-- a past and then some events, oldest first: the past after them, and the decision on each of them
unfoldable pub past_from : Rules → Past → List Event → Past
past_from rules past [] = past
past_from rules past (event ∷ events) = past_from rules (entry_of rules past event ∷ past) events

unfoldable pub decisions_from : Rules → Past → List Event → List Decision
decisions_from rules past [] = []
decisions_from rules past (event ∷ events) =
    decision_of (outcome_of rules past event)
    ∷ decisions_from rules (entry_of rules past event ∷ past) events

-- the past of an account with these events, oldest first
unfoldable pub past_of : Rules → List Event → Past
past_of rules events = past_from rules [] events

-- the decision on each of the events of an account
unfoldable pub decisions : Rules → List Event → List Decision
decisions rules events = decisions_from rules [] events

-- the places that an account with these events holds
unfoldable pub places_after : Rules → List Event → ℕ
places_after rules events = places rules (past_of rules events)
