-- An account's own events, found step by step.
use Rattle.std.proofs.Common.{◌≡◌, ℕ, ◌+◌, ◌<◌, ◌≤◌, List, [], ◌∷◌, ◌++◌, length, get_or, drop, Option, Some, None, refl, sym, ap, ◌∙◌, append_assoc}
use Rattle.std.specs.List.{cons_option}
use Rattle.std.proofs.lemmas.List.{append-nil, drop_more, drop_all}
use Rattle.rsl_accounts.specs.Configuration.{Configuration}
use Rattle.rsl_event.specs.declared.event.Event.{Event}
use Rattle.rsl_steps.specs.Own.{event_of, own_events}
use Rattle.rsl_steps.specs.declared.step.Step.{Step}

-- the events found so far, and those among the steps that are left
next : (config : Configuration) (boot account : ℕ) (steps : List Step) (i : ℕ) (step : Step) → i < length steps → step ≡ get_or steps i step
    → own_events config boot account (drop i steps) ≡ cons_option (event_of config boot account step) (own_events config boot account (drop (i + 1) steps))
unfolding own_events
next config boot account steps i step lt is = rw (drop_more steps i step lt, sym is) refl

pub own-some : (config : Configuration) (boot account : ℕ) (steps : List Step) (i : ℕ) (step : Step) (event : Event) (events whole : List Event) → i < length steps → step ≡ get_or steps i step
    → Some event ≡ event_of config boot account step → events ++ own_events config boot account (drop i steps) ≡ whole
    → (events ++ event ∷ []) ++ own_events config boot account (drop (i + 1) steps) ≡ whole
own-some config boot account steps i step event events whole lt is e so_far =
    append_assoc events (event ∷ []) (own_events config boot account (drop (i + 1) steps))
    ∙ ap (λ (o : Option Event). events ++ cons_option o (own_events config boot account (drop (i + 1) steps))) e
    ∙ ap (λ (x : List Event). events ++ x) (sym (next config boot account steps i step lt is)) ∙ so_far

pub own-none : (config : Configuration) (boot account : ℕ) (steps : List Step) (i : ℕ) (step : Step) (events whole : List Event) → i < length steps → step ≡ get_or steps i step
    → None ≡ event_of config boot account step → events ++ own_events config boot account (drop i steps) ≡ whole
    → events ++ own_events config boot account (drop (i + 1) steps) ≡ whole
own-none config boot account steps i step events whole lt is e so_far =
    ap (λ (o : Option Event). events ++ cons_option o (own_events config boot account (drop (i + 1) steps))) e
    ∙ ap (λ (x : List Event). events ++ x) (sym (next config boot account steps i step lt is)) ∙ so_far

pub own-end : (config : Configuration) (boot account : ℕ) (steps : List Step) (i : ℕ) (events whole : List Event) → length steps ≤ i → events ++ own_events config boot account (drop i steps) ≡ whole → events ≡ whole
unfolding own_events
own-end config boot account steps i events whole over so_far =
    sym (append-nil events) ∙ ap (λ (x : List Step). events ++ own_events config boot account x) (sym (drop_all i steps over)) ∙ so_far

pub ruleset own_steps = (own-some, own-none, own-end)
