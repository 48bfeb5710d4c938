-- An account's own events are those of the moves of its shard.
use Rattle.std.proofs.Common.{◌≡◌, ℕ, ◌==◌, ◌%◌, Bool, true, false, cond, List, [], ◌∷◌, Option, Some, None, Result, Ok, Err, map, reverse, refl, sym, ap, ◌∙◌}
use Rattle.std.specs.List.{cons_option, filter_map}
use Rattle.std.proofs.lemmas.Bool.{eqb-true, eq-eqb}
use Rattle.rsl_accounts.specs.Configuration.{Configuration}
use Rattle.rsl_event.specs.Meaning.{meaning}
use Rattle.rsl_event.specs.declared.event.Act.{Act}
use Rattle.rsl_event.specs.declared.event.Act.TheVariants as acts
use Rattle.rsl_event.specs.declared.event.Event.{Event}
use Rattle.rsl_event.specs.declared.meaning.Dropped.{Dropped}
use Rattle.rsl_event.specs.declared.meaning.Meaning.{Meaning}
use Rattle.rsl_event.specs.declared.meaning.Meaning.TheVariants.{Bare, Reject, Own, Restart, Stray}
use Rattle.rsl_shard.specs.Moves.{event_to, own_in}
use Rattle.rsl_shard.specs.declared.line.Line.{Line}
use Rattle.rsl_shard.specs.declared.moved.Move.{Move}
use Rattle.rsl_shard.specs.declared.moved.Move.TheVariants as moves
use Rattle.rsl_steps.specs.Moves.{move_in, move_of, shard_moves}
use Rattle.rsl_steps.specs.Own.{own_event, event_of, is_of_shard, own, own_events}
use Rattle.rsl_steps.specs.declared.step.Step.{Step}
use Rattle.rsl_steps.specs.declared.step.Step.TheVariants as steps
use Rattle.rsl_steps.specs.declared.step.Step.TheVariants.{Datagram}

-- what a move that may be there is to an account
abbrev event_to_option : (account : ℕ) → Option Move → Option Event
event_to_option account None = None
event_to_option account (Some moved) = event_to account moved

of_own : (config : Configuration) (account other moment : ℕ) (act : Act)
    → event_to_option account (move_in config (account % config.settings.shards) moment (Ok (Own other act))) ≡ own_event account moment (Ok (Own other act))
of_own config account other moment act = by (other == account) (is_of_shard config other (account % config.settings.shards)) refl refl
  where
    by : (same of_shard : Bool) → (other == account) ≡ same → is_of_shard config other (account % config.settings.shards) ≡ of_shard
        → event_to_option account (cond of_shard (Some (moves.Own other (record { moment = moment; act = act }))) None)
        ≡ cond (other == account) (Some (record { moment = moment; act = act })) None
    by same true is of = refl
    by false false is of = rw is refl
    by true false is of =
        absurd (apart (sym of ∙ eq-eqb (other % config.settings.shards) (account % config.settings.shards)
        (ap (λ (number : ℕ). number % config.settings.shards) (eqb-true other account is))))
      where
        apart : false ≡ true → ⊥
        apart e = cc

of_stray : (shard account : ℕ) (moved : Move) → event_to account moved ≡ None → (b : Bool) → event_to_option account (cond b (Some moved) None) ≡ None
of_stray shard account moved none true = none
of_stray shard account moved none false = refl

of_meaning : (config : Configuration) (account moment : ℕ) (r : Result Meaning Dropped)
    → event_to_option account (move_in config (account % config.settings.shards) moment r) ≡ own_event account moment r
of_meaning config account moment (Err dropped) = refl
of_meaning config account moment (Ok Bare) = refl
of_meaning config account moment (Ok Reject) = refl
of_meaning config account moment (Ok (Restart nas delay)) = refl
of_meaning config account moment (Ok (Stray note)) =
    of_stray (account % config.settings.shards) account (moves.Stray moment note) refl (0 == account % config.settings.shards)
of_meaning config account moment (Ok (Own other act)) = of_own config account other moment act

chosen : (account : ℕ) (moved : Move) (event : Event) → event_to account moved ≡ Some event → (b : Bool)
    → event_to_option account (cond b (Some moved) None) ≡ cond b (Some event) None
chosen account moved event is true = is
chosen account moved event is false = refl

-- the event of the move that a step is to the account's shard is what the step is to the account
of_step : (config : Configuration) (boot account : ℕ) (step : Step)
    → event_to_option account (move_of config boot (account % config.settings.shards) step) ≡ event_of config boot account step
of_step config boot account (Datagram moment port source octets) = of_meaning config account moment (meaning config boot port source octets)
of_step config boot account (steps.Sweep shard moment nas delay) =
    chosen account (moves.Sweep moment nas delay) (record { moment = moment; act = acts.Sweep nas delay }) refl (account % config.settings.shards == shard)
of_step config boot account (steps.Tick shard moment) =
    chosen account (moves.Tick moment) (record { moment = moment; act = acts.Tick }) refl (account % config.settings.shards == shard)

of_first : (account : ℕ) (o : Option Move) (all : List Move) → filter_map (event_to account) (cons_option o all) ≡ cons_option (event_to_option account o) (filter_map (event_to account) all)
of_first account None all = refl
of_first account (Some moved) all = refl

of_steps : (config : Configuration) (boot account : ℕ) (all : List Step)
    → filter_map (event_to account) (filter_map (move_of config boot (account % config.settings.shards)) all) ≡ filter_map (event_of config boot account) all
of_steps config boot account [] = refl
of_steps config boot account (step ∷ all) =
    of_first account (move_of config boot (account % config.settings.shards) step) (filter_map (move_of config boot (account % config.settings.shards)) all)
    ∙ (λ i. cons_option (of_step config boot account step i) (of_steps config boot account all i))

abbrev moves_in : List Line → List Move
moves_in lines = map (λ (line : Line). line.moved) lines

of_lines : (account : ℕ) (lines : List Line) → filter_map (λ (line : Line). event_to account line.moved) lines ≡ filter_map (event_to account) (moves_in lines)
of_lines account [] = refl
of_lines account (line ∷ lines) = ap (cons_option (event_to account line.moved)) (of_lines account lines)

-- so where the lines of a journal are the moves of the account's shard, its own events among them are those among the steps
pub own-journal : (config : Configuration) (boot account : ℕ) (before : List Step) (lines : List Line)
    → map (λ (line : Line). line.moved) lines ≡ shard_moves config boot (account % config.settings.shards) before
    → own_in account lines ≡ own config boot account before
unfolding own_in own own_events shard_moves
own-journal config boot account before lines are =
    of_lines account lines ∙ ap (filter_map (event_to account)) are ∙ of_steps config boot account (reverse before)
