-- How many steps lines have.
use Rattle.std.proofs.Common.{◌≡◌, ℕ, ◌+◌, List, [], ◌∷◌, length, Option, Some, None, refl, ap, ◌∙◌, arith, sum_by}
use Rattle.std.proofs.lemmas.List.{length-append}
use Rattle.std.proofs.lemmas.List.Concat.{flat_map-cons}
use Rattle.std.proofs.lemmas.List.FromFn.{length-map-range_with_len}
use Rattle.std.proofs.lemmas.List.Sums.{sum_by-cons}
use Rattle.rsl_accounts.specs.Configuration.{Configuration, client_number}
use Rattle.rsl_event.specs.declared.meaning.Port.TheVariants.{Acct}
use Rattle.rsl_event.specs.declared.status.Status.{Status}
use Rattle.rsl_script.specs.declared.event_line.EventLine.{EventLine}
use Rattle.rsl_script.specs.declared.event_line.Happening.{Happening}
use Rattle.rsl_script.specs.declared.event_line.Happening.TheVariants.{Access, Accounting, Raw}
use Rattle.rsl_script.specs.declared.event_line.Happening.TheVariants as happenings
use Rattle.rsl_script.specs.declared.request.AccountingRequest.{AccountingRequest}
use Rattle.rsl_script.specs.declared.request.AccountingRequest.TheVariants.{Session, Server}
use Rattle.rsl_replay.specs.Accounting.{accounting_octets}
use Rattle.rsl_replay.specs.Steps.{delay_told, nas_named, sweeps_by, sweeps_before, secret_at, datagram, steps_at, steps_of_line, steps_of_lines, sweep_count, step_count_of, step_count}
use Rattle.rsl_steps.specs.declared.step.Step.{Step}
use Rattle.rsl_steps.specs.declared.step.Step.TheVariants as steps

length-sweeps_by : (config : Configuration) (moment : ℕ) (status : Status) (name : Option (List ℕ)) (delay client : Option ℕ)
    → length (sweeps_by config moment name delay client) ≡ sweep_count config (Server status name delay) client
length-sweeps_by config moment status name delay None = refl
length-sweeps_by config moment status name delay (Some client) = length-map-range_with_len (λ (shard : ℕ). steps.Sweep shard moment (nas_named client name) (delay_told config delay)) 0 config.settings.shards

length-sweeps_before : (config : Configuration) (moment : ℕ) (address : List ℕ) (request : AccountingRequest)
    → length (sweeps_before config moment address request) ≡ sweep_count config request (client_number config address)
length-sweeps_before config moment address (Session status nas name session bundle class station) = none (client_number config address)
  where
    none : (client : Option ℕ) → 0 ≡ sweep_count config (Session status nas name session bundle class station) client
    none None = refl
    none (Some client) = refl
length-sweeps_before config moment address (Server status nas delay) = length-sweeps_by config moment status nas delay (client_number config address)

length-steps_at : (config : Configuration) (boot moment : ℕ) (happening : Happening) → length (steps_at config boot moment happening) ≡ step_count_of config happening
length-steps_at config boot moment (Access address request) = refl
length-steps_at config boot moment (Accounting address request) =
    let before = sweeps_before config moment address request in
    let own = datagram moment Acct address (accounting_octets boot request (secret_at config address)) ∷ [] in
    length-append before own ∙ ap (λ (n : ℕ). n + 1) (length-sweeps_before config moment address request)
length-steps_at config boot moment (Raw address port octets) = refl
length-steps_at config boot moment happenings.Tick = length-map-range_with_len (λ (shard : ℕ). steps.Tick shard moment) 0 config.settings.shards

-- a line has so many steps, whatever the boot number
pub length-steps_of_line : (config : Configuration) (boot : ℕ) (line : EventLine) → length (steps_of_line config boot line) ≡ step_count config line
unfolding steps_of_line step_count
length-steps_of_line config boot line = length-steps_at config boot line.moment line.happening

-- lines have the steps of each
pub length-steps_of_lines : (config : Configuration) (boot : ℕ) (lines : List EventLine) → length (steps_of_lines config boot lines) ≡ sum_by (step_count config) lines
length-steps_of_lines config boot [] = refl
length-steps_of_lines config boot (line ∷ lines) =
    let here = length-steps_of_line config boot line in
    let rest = length-steps_of_lines config boot lines in
    omega (arith, ap (λ (x : List Step). length x) (flat_map-cons (steps_of_line config boot) line lines), length-append (steps_of_line config boot line) (steps_of_lines config boot lines), sum_by-cons (step_count config) line lines)
