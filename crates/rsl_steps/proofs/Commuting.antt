-- Neighbouring packets of two accounts.
use Rattle.std.proofs.Common.{◌≡◌, ◌≢◌, ℕ, IsTrue, Bool, true, false, ◌==◌, cond, List, ◌∷◌, ◌++◌, Option, Some, None, Result, Ok, Err, refl, sym, ap, ◌∙◌}
use Rattle.std.specs.Prelude.{is_some}
use Rattle.std.specs.List.{cons_option, filter_map}
use Rattle.std.proofs.lemmas.Bool.{eqb-true, eq-eqb}
use Rattle.std.proofs.lemmas.List.Elements.{filter_map-append}
use Rattle.rsl_accounts.specs.Configuration.{Configuration}
use Rattle.rsl_event.specs.Meaning.{meaning}
use Rattle.rsl_event.specs.declared.event.Event.{Event}
use Rattle.rsl_event.specs.declared.meaning.Dropped.{Dropped}
use Rattle.rsl_event.specs.declared.meaning.Meaning.{Meaning}
use Rattle.rsl_event.specs.declared.meaning.Meaning.TheVariants.{Bare, Reject, Own, Restart, Stray}
use Rattle.rsl_steps.specs.Laws.{PacketsOfTwoAccountsCommute, is_own_packet}
use Rattle.rsl_steps.specs.Own.{own_event, event_of, own_events}
use Rattle.rsl_steps.specs.declared.step.Step.{Step}
use Rattle.rsl_steps.specs.declared.step.Step.TheVariants as steps
use Rattle.rsl_steps.specs.declared.step.Step.TheVariants.{Datagram}

no : IsTrue false → ⊥
no h = cc

-- an account's own meaning is nothing to another
not_both : (one other moment : ℕ) (r : Result Meaning Dropped) → one ≢ other → IsTrue (is_some (own_event one moment r)) → own_event other moment r ≡ None
not_both one other moment (Err dropped) differ own = absurd (no own)
not_both one other moment (Ok Bare) differ own = absurd (no own)
not_both one other moment (Ok Reject) differ own = absurd (no own)
not_both one other moment (Ok (Restart nas delay)) differ own = absurd (no own)
not_both one other moment (Ok (Stray note)) differ own = absurd (no own)
not_both one other moment (Ok (Own number act)) differ own = by (number == one) (number == other) refl refl own
  where
    by : (a b : Bool) → (number == one) ≡ a → (number == other) ≡ b → (let event : Event = record { moment = moment; act = act } in IsTrue (is_some (cond a (Some event) None)) → cond b (Some event) None ≡ None)
    by true true first second own = absurd (differ (sym (eqb-true number one first) ∙ eqb-true number other second))
    by true false first second own = refl
    by false b first second own = absurd (no own)

nothing_to : (config : Configuration) (boot one other : ℕ) (step : Step) → one ≢ other → IsTrue (is_own_packet config boot one step) → event_of config boot other step ≡ None
nothing_to config boot one other (Datagram moment port source octets) differ own = not_both one other moment (meaning config boot port source octets) differ own
nothing_to config boot one other (steps.Sweep shard moment nas delay) differ own = absurd (no own)
nothing_to config boot one other (steps.Tick shard moment) differ own = absurd (no own)

other_way : (a b : ℕ) → (a == b) ≡ false → a ≡ b → ⊥
other_way a b is equal = no (sym is ∙ eq-eqb a b equal)

pub packets_commute : PacketsOfTwoAccountsCommute
unfolding own_events
packets_commute config boot account one other before after first second differ own also =
    filter_map-append (event_of config boot account) before (first ∷ second ∷ after)
    ∙ ap (λ (events : List Event). filter_map (event_of config boot account) before ++ events) (exchanged (account == one) refl)
    ∙ sym (filter_map-append (event_of config boot account) before (second ∷ first ∷ after))
  where
    first_none : (a b : Option Event) → a ≡ None → cons_option a (cons_option b (filter_map (event_of config boot account) after)) ≡ cons_option b (cons_option a (filter_map (event_of config boot account) after))
    first_none a b none = rw none refl

    exchanged : (b : Bool) → (account == one) ≡ b
        → cons_option (event_of config boot account first) (cons_option (event_of config boot account second) (filter_map (event_of config boot account) after))
        ≡ cons_option (event_of config boot account second) (cons_option (event_of config boot account first) (filter_map (event_of config boot account) after))
    exchanged true is =
        let same : account ≡ one = eqb-true account one is in
        sym (first_none (event_of config boot account second) (event_of config boot account first)
        (nothing_to config boot other account second (λ equal. differ (sym same ∙ sym equal)) also))
    exchanged false is =
        first_none (event_of config boot account first) (event_of config boot account second)
        (nothing_to config boot one account first (λ equal. absurd (other_way account one is (sym equal))) own)
