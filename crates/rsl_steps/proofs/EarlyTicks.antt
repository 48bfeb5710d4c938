-- A tick that comes before steps none of which has a lower moment.
use Rattle.std.proofs.Common.{◌≡◌, ◌≢◌, ℕ, suc, ◌<◌, ◌≤◌, Bool, true, false, cond, List, [], ◌∷◌, ◌++◌, length, take, drop, insert, reverse, Option, Some, None, Result, Ok, Err, refl, sym, ap, ◌∙◌, append_assoc, arith}
use Rattle.std.specs.Prelude.{◌==◌, ⊤, slice_get}
use Rattle.std.specs.List.{AllByRecursion, filter_map}
use Rattle.std.specs.Option.{option_map_or, option_to_list}
use Rattle.std.proofs.lemmas.List.{append-nil, reverse-append, length-append, take-append-le, drop-append-le, take_all}
use Rattle.std.proofs.lemmas.List.Elements.{filter_map-append, recursion_from_All, All-from_recursion}
use Rattle.std.proofs.Math.Seq.{take-append_seam, drop-append_seam}
use Rattle.rsl_accounts.specs.Configuration.{Configuration, client_number}
use Rattle.rsl_accounts.specs.declared.entry.Entry.{Entry as Account}
use Rattle.rsl_accounts.specs.declared.rules.Rules.{Rules}
use Rattle.rsl_event.specs.Answer.{said}
use Rattle.rsl_event.specs.Meaning.{meaning}
use Rattle.rsl_event.specs.declared.event.Act.TheVariants as acts
use Rattle.rsl_event.specs.declared.event.Event.{Event}
use Rattle.rsl_event.specs.declared.event.Decision.{Decision}
use Rattle.rsl_event.specs.declared.event.Decision.TheVariants.{Done}
use Rattle.rsl_event.specs.declared.meaning.Dropped.{Dropped}
use Rattle.rsl_event.specs.declared.meaning.Meaning.{Meaning}
use Rattle.rsl_event.specs.declared.meaning.Meaning.TheVariants.{Bare, Reject, Own, Restart, Stray}
use Rattle.rsl_session.specs.Past.{Past}
use Rattle.rsl_session.specs.Rule.{decision_of, decisions, decisions_from, entry_of, outcome_of, past_from, past_of, places_after}
use Rattle.rsl_rule.specs.Laws.{EarlyTicksChangeNoDecision as ForOneAccount}
use Rattle.rsl_wire.specs.Packet.{packet_of}
use Rattle.rsl_steps.specs.Laws.{EarlyTicksChangeNothing, moment_of}
use Rattle.rsl_steps.specs.Own.{own_event, event_of, is_of_shard, own, own_events}
use Rattle.rsl_steps.specs.Run.{AreAnswers, answer_after, answer_by, decision_after, decision_on, octets_by, steps_taken}
use Rattle.rsl_steps.proofs.OneMore.{own-cons}
use Rattle.rsl_steps.specs.declared.step.Answer.{Answer}
use Rattle.rsl_steps.specs.declared.step.Answer.TheVariants as answers
use Rattle.rsl_steps.specs.declared.step.Step.{Step}
use Rattle.rsl_steps.specs.declared.step.Step.TheVariants as steps
use Rattle.rsl_steps.specs.declared.step.Step.TheVariants.{Datagram}

-- ---- one account's events

abbrev tick_at : ℕ → Event
tick_at moment = record { moment = moment; act = acts.Tick }

abbrev pub AreLater : ℕ → List Event → Type 0
AreLater moment events = AllByRecursion (λ (event : Event). moment ≤ event.moment) events

-- lists that end alike
last_same : {A : Type 0} (xs ys : List A) (a b : A) → xs ++ a ∷ [] ≡ ys ++ b ∷ [] → a ≡ b
last_same xs ys a b e =
    head (sym (reverse-append xs (a ∷ [])) ∙ ap reverse e ∙ reverse-append ys (b ∷ []))
  where
    head : a ∷ reverse xs ≡ b ∷ reverse ys → a ≡ b
    head same = cc

decisions-push : (rules : Rules) (past : Past) (events : List Event) (event : Event)
    → decisions_from rules past (events ++ event ∷ []) ≡ decisions_from rules past events ++ decision_of (outcome_of rules (past_from rules past events) event) ∷ []
unfolding decisions_from past_from
decisions-push rules past [] event = refl
decisions-push rules past (first ∷ events) event =
    ap (λ (ds : List Decision). decision_of (outcome_of rules past first) ∷ ds) (decisions-push rules (entry_of rules past first ∷ past) events event)

decided-last : (rules : Rules) (events : List Event) (event : Event) → decisions rules (events ++ event ∷ []) ≡ decisions rules events ++ decision_after rules events event ∷ []
unfolding decisions decision_after past_of
decided-last rules events event = decisions-push rules [] events event

length-decisions : (rules : Rules) (past : Past) (events : List Event) → length (decisions_from rules past events) ≡ length events
unfolding decisions_from
length-decisions rules past [] = refl
length-decisions rules past (event ∷ events) = ap suc (length-decisions rules (entry_of rules past event ∷ past) events)

length-decided : (rules : Rules) (events : List Event) → length (decisions rules events) ≡ length events
unfolding decisions
length-decided rules events = length-decisions rules [] events

later_from : (moment : ℕ) (first rest : List Event) → AreLater moment rest → AreLater moment (drop (length first) (first ++ rest))
later_from moment first rest later = rw (drop-append_seam first rest) later

inserted : (moment : ℕ) (first rest : List Event) → insert (first ++ rest) (length first) (tick_at moment) ≡ first ++ tick_at moment ∷ rest
inserted moment first rest = rw (take-append_seam first rest, drop-append_seam first rest) refl

module _ (early : ForOneAccount) where
  -- the decision on an event after the tick
  pub decision_early : (rules : Rules) (moment : ℕ) (first rest : List Event) (event : Event) → AreLater moment (rest ++ event ∷ [])
      → decision_after rules (first ++ tick_at moment ∷ rest) event ≡ decision_after rules (first ++ rest) event
  decision_early rules moment first rest event later =
      let all : List Event = first ++ (rest ++ event ∷ []) in
      let n : ℕ = length first in
      let within : n ≤ length all = omega (arith, length-append first (rest ++ event ∷ [])) in
      let short : n ≤ length (decisions rules (first ++ rest)) = omega (arith, length-decided rules (first ++ rest), length-append first rest) in
      let law = (early rules all n moment within (All-from_recursion (λ (e : Event). moment ≤ e.moment) (drop n all) (later_from moment first (rest ++ event ∷ []) later))).0 in
      let with_tick : decisions rules (insert all n (tick_at moment)) ≡ decisions rules (first ++ tick_at moment ∷ rest) ++ decision_after rules (first ++ tick_at moment ∷ rest) event ∷ [] =
      ap (decisions rules) (inserted moment first (rest ++ event ∷ []) ∙ sym (append_assoc first (tick_at moment ∷ rest) (event ∷ [])))
      ∙ decided-last rules (first ++ tick_at moment ∷ rest) event in
      let without : decisions rules all ≡ decisions rules (first ++ rest) ++ decision_after rules (first ++ rest) event ∷ [] =
      ap (decisions rules) (sym (append_assoc first rest (event ∷ []))) ∙ decided-last rules (first ++ rest) event in
      let d : List Decision = decisions rules (first ++ rest) in
      let last : Decision = decision_after rules (first ++ rest) event in
      let moved : insert (decisions rules all) n Done ≡ (take n d ++ Done ∷ drop n d) ++ last ∷ [] =
      ap (λ (ds : List Decision). insert ds n Done) without
      ∙ (λ i. take-append-le n d (last ∷ []) short i ++ Done ∷ drop-append-le n d (last ∷ []) short i)
      ∙ sym (append_assoc (take n d) (Done ∷ drop n d) (last ∷ [])) in
      last_same (decisions rules (first ++ tick_at moment ∷ rest)) (take n d ++ Done ∷ drop n d) _ _ (sym with_tick ∙ law ∙ moved)

  -- the places after an event after the tick
  pub places_early : (rules : Rules) (moment : ℕ) (first rest : List Event) → AreLater moment rest → rest ≢ []
      → places_after rules (first ++ tick_at moment ∷ rest) ≡ places_after rules (first ++ rest)
  places_early rules moment first rest later some =
      let all : List Event = first ++ rest in
      let n : ℕ = length first in
      let longer : n < length all = omega (arith, length-append first rest, positive rest some) in
      let law = (early rules all n moment (omega (arith, longer)) (All-from_recursion (λ (e : Event). moment ≤ e.moment) (drop n all) (later_from moment first rest later))).1 (length all) longer (omega arith) in
      let whole : take (suc (length all)) (insert all n (tick_at moment)) ≡ first ++ tick_at moment ∷ rest =
      ap (take (suc (length all))) (inserted moment first rest)
      ∙ take_all (suc (length all)) (first ++ tick_at moment ∷ rest) (omega (arith, length-append first rest, length-append first (tick_at moment ∷ rest))) in
      ap (places_after rules) (sym whole) ∙ law ∙ ap (places_after rules) (take_all (length all) all (omega arith))
    where
      positive : (events : List Event) → events ≢ [] → 0 < length events
      positive [] is = absurd (is refl)
      positive (event ∷ events) is = omega arith

  -- ---- steps

  own-append : (config : Configuration) (boot account : ℕ) (since before : List Step) → own config boot account (since ++ before) ≡ own config boot account before ++ own config boot account since
  unfolding own own_events
  own-append config boot account since before =
      ap (filter_map (event_of config boot account)) (reverse-append since before)
      ∙ filter_map-append (event_of config boot account) (reverse before) (reverse since)

  abbrev AreStepsLater : ℕ → List Step → Type 0
  AreStepsLater moment all = AllByRecursion (λ (step : Step). moment ≤ moment_of step) all

  -- what a step is to an account has the step's moment
  abbrev HasMoment : ℕ → Option Event → Type 0
  HasMoment moment None = ⊤
  HasMoment moment (Some event) = event.moment ≡ moment

  has_moment_if : (b : Bool) (moment : ℕ) (event : Event) → event.moment ≡ moment → HasMoment moment (cond b (Some event) None)
  has_moment_if true moment event same = same
  has_moment_if false moment event same = tt

  event_in_moment : (account moment : ℕ) (r : Result Meaning Dropped) → HasMoment moment (own_event account moment r)
  event_in_moment account moment (Err dropped) = tt
  event_in_moment account moment (Ok Bare) = tt
  event_in_moment account moment (Ok Reject) = tt
  event_in_moment account moment (Ok (Restart nas delay)) = tt
  event_in_moment account moment (Ok (Stray note)) = tt
  event_in_moment account moment (Ok (Own other act)) = has_moment_if (other == account) moment (record { moment = moment; act = act }) refl

  event_of_moment : (config : Configuration) (boot account : ℕ) (step : Step) → HasMoment (moment_of step) (event_of config boot account step)
  event_of_moment config boot account (Datagram moment port source octets) = event_in_moment account moment (meaning config boot port source octets)
  event_of_moment config boot account (steps.Sweep shard moment nas delay) = has_moment_if (is_of_shard config account shard) moment (record { moment = moment; act = acts.Sweep nas delay }) refl
  event_of_moment config boot account (steps.Tick shard moment) = has_moment_if (is_of_shard config account shard) moment (record { moment = moment; act = acts.Tick }) refl

  append_later : (moment : ℕ) (one other : List Event) → AreLater moment one → AreLater moment other → AreLater moment (one ++ other)
  append_later moment [] other here there = there
  append_later moment (event ∷ one) other here there = (here.0, append_later moment one other here.1 there)

  later_to_list : (moment at : ℕ) (o : Option Event) → HasMoment at o → moment ≤ at → AreLater moment (option_to_list o)
  later_to_list moment at None has le = tt
  later_to_list moment at (Some event) has le = (rw has le, tt)

  own_nil : (config : Configuration) (boot account moment : ℕ) → AreLater moment (own config boot account [])
  unfolding own own_events
  own_nil config boot account moment = tt

  own_later : (config : Configuration) (boot account moment : ℕ) (all : List Step) → AreStepsLater moment all → AreLater moment (own config boot account all)
  own_later config boot account moment [] later = own_nil config boot account moment
  own_later config boot account moment (step ∷ all) later =
      rw (own-cons config boot account step all)
      (append_later moment (own config boot account all) _ (own_later config boot account moment all later.1)
      (later_to_list moment (moment_of step) (event_of config boot account step) (event_of_moment config boot account step) later.0))

  -- own events with the tick among them, and without it
  record Early (config : Configuration) (boot account shard moment : ℕ) (before since : List Step) : Type 0 where
    decided : (rules : Rules) (event : Event) → moment ≤ event.moment
        → decision_after rules (own config boot account (since ++ steps.Tick shard moment ∷ before)) event ≡ decision_after rules (own config boot account (since ++ before)) event
    places : (rules : Rules) → own config boot account since ≢ []
        → places_after rules (own config boot account (since ++ steps.Tick shard moment ∷ before)) ≡ places_after rules (own config boot account (since ++ before))

  early_by : (config : Configuration) (boot account shard moment : ℕ) (before since : List Step) (b : Bool) → is_of_shard config account shard ≡ b → AreLater moment (own config boot account since)
      → own config boot account (since ++ steps.Tick shard moment ∷ before) ≡ (own config boot account before ++ option_to_list (cond b (Some (tick_at moment)) None)) ++ own config boot account since
      → Early config boot account shard moment before since
  early_by config boot account shard moment before since true is later with_tick =
      let first : List Event = own config boot account before in
      let rest : List Event = own config boot account since in
      let without : own config boot account (since ++ before) ≡ first ++ rest = own-append config boot account since before in
      let ticked : own config boot account (since ++ steps.Tick shard moment ∷ before) ≡ first ++ tick_at moment ∷ rest = with_tick ∙ append_assoc first (tick_at moment ∷ []) rest in
      record {
        decided = λ rules event le. rw (ticked, without) (decision_early rules moment first rest event (append_later moment rest (event ∷ []) later (le, tt)));
        places = λ rules some. rw (ticked, without) (places_early rules moment first rest later some);
      }
  early_by config boot account shard moment before since false is later with_tick =
      let first : List Event = own config boot account before in
      let rest : List Event = own config boot account since in
      let same : own config boot account (since ++ steps.Tick shard moment ∷ before) ≡ own config boot account (since ++ before) =
      with_tick ∙ ap (λ (events : List Event). events ++ rest) (append-nil first) ∙ sym (own-append config boot account since before) in
      record {
        decided = λ rules event le. ap (λ (events : List Event). decision_after rules events event) same;
        places = λ rules some. ap (places_after rules) same;
      }

  early_of : (config : Configuration) (boot account shard moment : ℕ) (before since : List Step) → AreStepsLater moment since → Early config boot account shard moment before since
  early_of config boot account shard moment before since later =
      early_by config boot account shard moment before since (is_of_shard config account shard) refl (own_later config boot account moment since later)
      (own-append config boot account since (steps.Tick shard moment ∷ before)
      ∙ ap (λ (events : List Event). events ++ own config boot account since) (own-cons config boot account (steps.Tick shard moment) before))

  -- the answer to a step after the tick
  decided_early : (config : Configuration) (boot shard moment : ℕ) (before since : List Step) (at : ℕ) (found : Meaning) → AreStepsLater moment since → moment ≤ at
      → decision_on config boot (since ++ steps.Tick shard moment ∷ before) at found ≡ decision_on config boot (since ++ before) at found
  decided_early config boot shard moment before since at Bare later le = refl
  decided_early config boot shard moment before since at Reject later le = refl
  decided_early config boot shard moment before since at (Restart nas delay) later le = refl
  decided_early config boot shard moment before since at (Stray note) later le = refl
  decided_early config boot shard moment before since at (Own account act) later le = by (slice_get config.accounts account)
    where
      by : (o : Option Account)
          → option_map_or (λ (entry : Account). decision_after entry.rules (own config boot account (since ++ steps.Tick shard moment ∷ before)) (record { moment = at; act = act })) o Done
          ≡ option_map_or (λ (entry : Account). decision_after entry.rules (own config boot account (since ++ before)) (record { moment = at; act = act })) o Done
      by None = refl
      by (Some entry) = (early_of config boot account shard moment before since later).decided entry.rules (record { moment = at; act = act }) le

  answered_early : (config : Configuration) (boot shard moment : ℕ) (before since : List Step) (step : Step) → AreStepsLater moment since → moment ≤ moment_of step
      → answer_after config boot (since ++ steps.Tick shard moment ∷ before) step ≡ answer_after config boot (since ++ before) step
  answered_early config boot shard moment before since (steps.Sweep number at nas delay) later le = refl
  answered_early config boot shard moment before since (steps.Tick number at) later le = refl
  answered_early config boot shard moment before since (Datagram at port source octets) later le = by (meaning config boot port source octets)
    where
      by : (r : Result Meaning Dropped) → answer_by config boot (since ++ steps.Tick shard moment ∷ before) at source octets r ≡ answer_by config boot (since ++ before) at source octets r
      by (Err dropped) = refl
      by (Ok found) =
          ap (λ (d : Decision). answers.Reply (said found d) (octets_by config boot found d (packet_of octets) (client_number config source.address)))
          (decided_early config boot shard moment before since at found later le)

  answers_early : (config : Configuration) (boot shard moment : ℕ) (before since all : List Step) (given : List Answer) → AreStepsLater moment since → AreStepsLater moment all
      → AreAnswers config boot (since ++ before) all given → AreAnswers config boot (since ++ steps.Tick shard moment ∷ before) all given
  unfolding AreAnswers
  answers_early config boot shard moment before since [] [] later rest are = tt
  answers_early config boot shard moment before since [] (answer ∷ given) later rest are = absurd are
  answers_early config boot shard moment before since (step ∷ all) [] later rest are = absurd are
  answers_early config boot shard moment before since (step ∷ all) (answers.Refused ∷ given) later rest are = answers_early config boot shard moment before since all given later rest.1 are
  answers_early config boot shard moment before since (step ∷ all) (answers.Quiet ∷ given) later rest are =
      (are.0 ∙ sym (answered_early config boot shard moment before since step later rest.0), answers_early config boot shard moment before (step ∷ since) all given (rest.0, later) rest.1 are.1)
  answers_early config boot shard moment before since (step ∷ all) (answers.Dropped dropped ∷ given) later rest are =
      (are.0 ∙ sym (answered_early config boot shard moment before since step later rest.0), answers_early config boot shard moment before (step ∷ since) all given (rest.0, later) rest.1 are.1)
  answers_early config boot shard moment before since (step ∷ all) (answers.Reply word octets ∷ given) later rest are =
      (are.0 ∙ sym (answered_early config boot shard moment before since step later rest.0), answers_early config boot shard moment before (step ∷ since) all given (rest.0, later) rest.1 are.1)

  -- the steps that were taken come on top of those before
  taken-onto : (before since all : List Step) (given : List Answer) → steps_taken (since ++ before) all given ≡ steps_taken since all given ++ before
  unfolding steps_taken
  taken-onto before since [] given = refl
  taken-onto before since (step ∷ all) [] = refl
  taken-onto before since (step ∷ all) (answers.Refused ∷ given) = taken-onto before since all given
  taken-onto before since (step ∷ all) (answers.Quiet ∷ given) = taken-onto before (step ∷ since) all given
  taken-onto before since (step ∷ all) (answers.Dropped dropped ∷ given) = taken-onto before (step ∷ since) all given
  taken-onto before since (step ∷ all) (answers.Reply word octets ∷ given) = taken-onto before (step ∷ since) all given

  taken_later : (moment : ℕ) (since all : List Step) (given : List Answer) → AreStepsLater moment since → AreStepsLater moment all → AreStepsLater moment (steps_taken since all given)
  unfolding steps_taken
  taken_later moment since [] given later rest = later
  taken_later moment since (step ∷ all) [] later rest = later
  taken_later moment since (step ∷ all) (answers.Refused ∷ given) later rest = taken_later moment since all given later rest.1
  taken_later moment since (step ∷ all) (answers.Quiet ∷ given) later rest = taken_later moment (step ∷ since) all given (rest.0, later) rest.1
  taken_later moment since (step ∷ all) (answers.Dropped dropped ∷ given) later rest = taken_later moment (step ∷ since) all given (rest.0, later) rest.1
  taken_later moment since (step ∷ all) (answers.Reply word octets ∷ given) later rest = taken_later moment (step ∷ since) all given (rest.0, later) rest.1

  pub early_ticks : EarlyTicksChangeNothing
  early_ticks config boot shard moment before all given later are =
      let each : AreStepsLater moment all = recursion_from_All (λ (step : Step). moment ≤ moment_of step) all later in
      let since : List Step = steps_taken [] all given in (
        answers_early config boot shard moment before [] all given tt each are,
        λ account entry there some.
            ap (λ (x : List Step). places_after entry.rules (own config boot account x)) (taken-onto (steps.Tick shard moment ∷ before) [] all given)
            ∙ (early_of config boot account shard moment before since (taken_later moment [] all given tt each)).places entry.rules some
            ∙ ap (λ (x : List Step). places_after entry.rules (own config boot account x)) (sym (taken-onto before [] all given)),
      )
