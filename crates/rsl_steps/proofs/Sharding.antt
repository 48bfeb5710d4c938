-- Steps that go together to every shard number are one event to each account, whatever the number of shards.
use Rattle.std.proofs.Common.{◌≡◌, ℕ, zero, suc, ◌+◌, ◌<◌, ◌≤◌, ◌%◌, Bool, true, false, ◌==◌, cond, List, [], ◌∷◌, ◌++◌, map, Some, None, Result, refl, sym, ap, ◌∙◌, arith}
use Rattle.std.specs.List.{cons_option, filter_map, flat_map, range_with_len}
use Rattle.std.proofs.Math.Nat.{mod-lt}
use Rattle.std.proofs.lemmas.Bool.{eqb-true, eq-eqb}
use Rattle.std.proofs.lemmas.List.Concat.{flat_map-cons}
use Rattle.std.proofs.lemmas.List.Elements.{filter_map-append}
use Rattle.rsl_accounts.specs.Configuration.{Configuration}
use Rattle.rsl_event.specs.Access.{access_meaning, asker}
use Rattle.rsl_event.specs.Accounting.{accounting_meaning, status_meaning}
use Rattle.rsl_event.specs.Meaning.{meaning}
use Rattle.rsl_event.specs.declared.event.Act.TheVariants as acts
use Rattle.rsl_event.specs.declared.event.Event.{Event}
use Rattle.rsl_event.specs.declared.event.Source.{Source}
use Rattle.rsl_event.specs.declared.meaning.Dropped.{Dropped}
use Rattle.rsl_event.specs.declared.meaning.Meaning.{Meaning}
use Rattle.rsl_event.specs.declared.meaning.Port.{Port}
use Rattle.rsl_steps.specs.Laws.{Coming, Packet, Restart, Time, TheNumberOfShardsDoesNotMatter, steps_to, with_shards}
use Rattle.rsl_steps.specs.Own.{own_event, event_of, is_of_shard, own_events}
use Rattle.rsl_steps.specs.declared.step.Step.{Step}
use Rattle.rsl_steps.specs.declared.step.Step.TheVariants as steps
use Rattle.rsl_steps.specs.declared.step.Step.TheVariants.{Datagram}

-- a datagram means the same
same_meaning : (config : Configuration) (shards boot : ℕ) (port : Port) (source : Source) (octets : List ℕ) → meaning config boot port source octets ≡ meaning (with_shards config shards) boot port source octets
unfolding meaning access_meaning asker accounting_meaning status_meaning
same_meaning config shards boot port source octets = refl

-- among steps to some shard numbers, at most one is to an account's shard
abbrev hits : (r : ℕ) → Event → (from count : ℕ) → List Event
hits r event from count = filter_map (λ (shard : ℕ). cond (r == shard) (Some event) None) (range_with_len from count)

unequal : (a b : ℕ) → (a == b) ≡ false → (a ≡ b → ⊥)
unequal a b is same = clash (sym is ∙ eq-eqb a b same)
  where
    clash : false ≡ true → ⊥
    clash h = cc

missed : (r : ℕ) (event : Event) (from count : ℕ) → r < from → hits r event from count ≡ []
missed r event from zero lt = refl
missed r event from (suc count) lt = by (r == from) refl (missed r event (from + 1) count (omega (arith, lt)))
  where
    by : (b : Bool) → (r == from) ≡ b → hits r event (from + 1) count ≡ [] → cons_option (cond b (Some event) None) (hits r event (from + 1) count) ≡ []
    by true is rest = let same : r ≡ from = eqb-true r from is in absurd (omega (arith, same, lt))
    by false is rest = rest

hit : (r : ℕ) (event : Event) (from count : ℕ) → from ≤ r → r < from + count → hits r event from count ≡ event ∷ []
hit r event from zero le lt = absurd (omega (arith, le, lt))
hit r event from (suc count) le lt = by (r == from) refl (λ above. hit r event (from + 1) count above (omega (arith, lt)))
  where
    by : (b : Bool) → (r == from) ≡ b → (from + 1 ≤ r → hits r event (from + 1) count ≡ event ∷ []) → cons_option (cond b (Some event) None) (hits r event (from + 1) count) ≡ event ∷ []
    by true is rest = let same : r ≡ from = eqb-true r from is in ap (λ (events : List Event). event ∷ events) (missed r event (from + 1) count (omega (arith, same)))
    by false is rest = let other = unequal r from is in rest (omega (arith, le, other))

-- steps to shard numbers from 0 on, which are this event to the account whose shard is theirs
to_shards : (config : Configuration) (boot account numbers : ℕ) (step : ℕ → Step) (event : Event)
    → ((shard : ℕ) → event_of config boot account (step shard) ≡ cond (is_of_shard config account shard) (Some event) None)
    → 0 < config.settings.shards → config.settings.shards ≤ numbers
    → own_events config boot account (map step (range_with_len 0 numbers)) ≡ event ∷ []
unfolding own_events
to_shards config boot account numbers step event is some le =
    let r : ℕ = account % config.settings.shards in
    each (range_with_len 0 numbers) ∙ hit r event 0 numbers (omega arith) (omega (arith, mod-lt account some, le))
  where
    each : (shards : List ℕ) → filter_map (event_of config boot account) (map step shards) ≡ filter_map (λ (shard : ℕ). cond (account % config.settings.shards == shard) (Some event) None) shards
    each [] = refl
    each (shard ∷ shards) = λ i. cons_option (is shard i) (each shards i)

one_packet : (config : Configuration) (boot account shards moment : ℕ) (port : Port) (source : Source) (octets : List ℕ)
    → own_events config boot account (Datagram moment port source octets ∷ []) ≡ own_events (with_shards config shards) boot account (Datagram moment port source octets ∷ [])
unfolding own_events
one_packet config boot account shards moment port source octets = ap (λ (r : Result Meaning Dropped). cons_option (own_event account moment r) []) (same_meaning config shards boot port source octets)

one_coming : (config : Configuration) (boot account shards numbers : ℕ) (coming : Coming) → 0 < config.settings.shards → 0 < shards → config.settings.shards ≤ numbers → shards ≤ numbers
    → own_events config boot account (steps_to numbers coming) ≡ own_events (with_shards config shards) boot account (steps_to numbers coming)
one_coming config boot account shards numbers (Packet moment port source octets) some others within also =
    one_packet config boot account shards moment port source octets
one_coming config boot account shards numbers (Restart moment nas delay) some others within also =
    let event : Event = record { moment = moment; act = acts.Sweep nas delay } in
    to_shards config boot account numbers (λ (shard : ℕ). steps.Sweep shard moment nas delay) event (λ shard. refl) some within
    ∙ sym (to_shards (with_shards config shards) boot account numbers (λ (shard : ℕ). steps.Sweep shard moment nas delay) event (λ shard. refl) others also)
one_coming config boot account shards numbers (Time moment) some others within also =
    let event : Event = record { moment = moment; act = acts.Tick } in
    to_shards config boot account numbers (λ (shard : ℕ). steps.Tick shard moment) event (λ shard. refl) some within
    ∙ sym (to_shards (with_shards config shards) boot account numbers (λ (shard : ℕ). steps.Tick shard moment) event (λ shard. refl) others also)

own-more : (config : Configuration) (boot account numbers : ℕ) (coming : Coming) (comings : List Coming)
    → own_events config boot account (flat_map (steps_to numbers) (coming ∷ comings)) ≡ own_events config boot account (steps_to numbers coming) ++ own_events config boot account (flat_map (steps_to numbers) comings)
unfolding own_events
own-more config boot account numbers coming comings =
    ap (filter_map (event_of config boot account)) (flat_map-cons (steps_to numbers) coming comings)
    ∙ filter_map-append (event_of config boot account) (steps_to numbers coming) (flat_map (steps_to numbers) comings)

none_coming : (config : Configuration) (boot account shards numbers : ℕ) → own_events config boot account (flat_map (steps_to numbers) []) ≡ own_events (with_shards config shards) boot account (flat_map (steps_to numbers) [])
unfolding own_events
none_coming config boot account shards numbers = refl

pub shards_alike : TheNumberOfShardsDoesNotMatter
shards_alike config boot account shards numbers [] some others within also = none_coming config boot account shards numbers
shards_alike config boot account shards numbers (coming ∷ comings) some others within also =
    own-more config boot account numbers coming comings
    ∙ (λ i. one_coming config boot account shards numbers coming some others within also i ++ shards_alike config boot account shards numbers comings some others within also i)
    ∙ sym (own-more (with_shards config shards) boot account numbers coming comings)
