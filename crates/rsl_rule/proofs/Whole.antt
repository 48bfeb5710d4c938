-- The past, the decisions and the places, event by event.
use Rattle.std.proofs.Common.{◌≡◌, ℕ, zero, suc, ◌+◌, ◌<◌, ◌≤◌, List, [], ◌∷◌, ◌++◌, reverse, map, take, drop, get_or, length, refl, ap, sym, ◌∙◌, subst, arith}
use Rattle.std.proofs.lemmas.List.{drop_more, drop_all, take_all, reverse-append, reverse-reverse, map-append, map_more, append_assoc, append-nil}
use Rattle.rsl_accounts.specs.Limits.{RulesFit}
use Rattle.rsl_accounts.specs.declared.rules.Rules.{Rules}
use Rattle.rsl_event.specs.declared.event.Decision.{Decision}
use Rattle.rsl_event.specs.declared.event.Event.{Event}
use Rattle.rsl_session.specs.declared.past_event.PastEvent.{PastEvent}
use Rattle.rsl_session.specs.declared.outcome.Outcome.{Outcome}
use Rattle.rsl_session.specs.Past.{Past, looking_back}
use Rattle.rsl_session.specs.Places.{places}
use Rattle.rsl_session.specs.Rule.{decision_of, decisions, decisions_from, entry_of, outcome_of, past_from, past_of, places_after}
use Rattle.rsl_session.proofs.Callers.{places_after-le}

pub looking_back-push : (entries : List PastEvent) (entry : PastEvent) → looking_back (entries ++ entry ∷ []) ≡ entry ∷ looking_back entries
unfolding looking_back
looking_back-push entries entry = reverse-append entries (entry ∷ [])

pub past_none : (rules : Rules) (events : List Event) → past_from rules (looking_back []) events ≡ past_of rules events
unfolding looking_back past_of
past_none rules events = refl

entry_is : (rules : Rules) (past : Past) (event : Event) (entry : PastEvent) → entry.event ≡ event → entry.outcome ≡ outcome_of rules past event → entry ≡ entry_of rules past event
unfolding entry_of
entry_is rules past event entry same did = made entry.event event entry.outcome (outcome_of rules past event) same did where
  made : (a b : Event) (o p : Outcome) → a ≡ b → o ≡ p → (let e : PastEvent = record { event = a; outcome = o } in e) ≡ (let e : PastEvent = record { event = b; outcome = p } in e)
  made a b o p same did = cc

pub past_more : (rules : Rules) (entries : List PastEvent) (events : List Event) (i : ℕ) (event : Event) (entry : PastEvent) → i < length events → event ≡ get_or events i event
    → entry.event ≡ event → entry.outcome ≡ outcome_of rules (looking_back entries) event
    → past_from rules (looking_back entries) (drop i events) ≡ past_from rules (looking_back (entries ++ entry ∷ [])) (drop (i + 1) events)
unfolding past_from
past_more rules entries events i event entry within is same did =
    rw (drop_more events i event within, sym is, looking_back-push entries entry, entry_is rules (looking_back entries) event entry same did) refl

pub past_end : (rules : Rules) (past : Past) (events : List Event) (i : ℕ) → length events ≤ i → past_from rules past (drop i events) ≡ past
unfolding past_from
past_end rules past events i all = rw (drop_all i events all) refl

pub ruleset past_steps = (past_none, past_more, past_end)

-- the decisions are those noted in the past
noted : List PastEvent → List Decision
noted entries = map (λ (entry : PastEvent). decision_of entry.outcome) entries

noted_from : (rules : Rules) (past : Past) (events : List Event) → noted (reverse (past_from rules past events)) ≡ noted (reverse past) ++ decisions_from rules past events
unfolding past_from decisions_from entry_of noted
noted_from rules past [] = sym (append-nil _)
noted_from rules past (event ∷ events) =
    noted_from rules (entry_of rules past event ∷ past) events
    ∙ ap (λ ds. ds ++ decisions_from rules (entry_of rules past event ∷ past) events)
    (ap noted (reverse-append (entry_of rules past event ∷ []) past) ∙ map-append (λ (entry : PastEvent). decision_of entry.outcome) (reverse past) (entry_of rules past event ∷ []))
    ∙ append_assoc (noted (reverse past)) (noted (entry_of rules past event ∷ [])) (decisions_from rules (entry_of rules past event ∷ past) events)

pub noted_all : (rules : Rules) (entries : List PastEvent) (events : List Event) → looking_back entries ≡ past_of rules events → map (λ (entry : PastEvent). decision_of entry.outcome) entries ≡ decisions rules events
unfolding looking_back past_of decisions noted
noted_all rules entries events is =
    ap noted (sym (reverse-reverse entries) ∙ ap reverse is) ∙ noted_from rules [] events

pub ruleset decided_steps = (map_more, take_all)

pub places_is : (rules : Rules) (entries : List PastEvent) (events : List Event) → looking_back entries ≡ past_of rules events → places rules (looking_back entries) ≡ places_after rules events
unfolding places_after
places_is rules entries events is = ap (places rules) is

pub places_within : (rules : Rules) (entries : List PastEvent) (events : List Event) → looking_back entries ≡ past_of rules events → RulesFit rules → places rules (looking_back entries) ≤ rules.places
places_within rules entries events is fit = omega (arith, places_is rules entries events is, places_after-le rules events fit)

pub ruleset places_steps = (places_is, places_within)

-- the events of a past are those that made it, newest first
events_from : (rules : Rules) (past : Past) (events : List Event) → map (λ (entry : PastEvent). entry.event) (past_from rules past events) ≡ reverse events ++ map (λ (entry : PastEvent). entry.event) past
unfolding past_from entry_of
events_from rules past [] = refl
events_from rules past (event ∷ events) =
    events_from rules (entry_of rules past event ∷ past) events
    ∙ sym (append_assoc (reverse events) (event ∷ []) (map (λ (entry : PastEvent). entry.event) past))
    ∙ ap (λ es. es ++ map (λ (entry : PastEvent). entry.event) past) (sym (reverse-append (event ∷ []) events))

pub events_of : (rules : Rules) (events : List Event) → map (λ (entry : PastEvent). entry.event) (past_of rules events) ≡ reverse events
unfolding past_of
events_of rules events = events_from rules [] events ∙ append-nil (reverse events)
