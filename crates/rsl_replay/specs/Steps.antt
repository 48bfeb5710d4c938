-- The steps of event lines.
use Rattle.std.specs.Prelude.{ℕ, ◌+◌, if◌then◌else◌, List, [], ◌∷◌, ◌++◌, map, codes, unwrap_or, Option, Some, None}
use Rattle.std.specs.List.{flat_map, range_with_len}
use Rattle.rsl_accounts.specs.Configuration.{Configuration, client_number}
use Rattle.rsl_event.specs.Request.{nas_name_of, secret_of}
use Rattle.rsl_event.specs.Signature.{must_sign, signing_if}
use Rattle.rsl_event.specs.declared.nas.Nas.{Nas}
use Rattle.rsl_event.specs.declared.meaning.Port.{Port}
use Rattle.rsl_event.specs.declared.meaning.Port.TheVariants.{Auth, Acct}
use Rattle.rsl_event.specs.declared.signing.Signing.{Signing}
use Rattle.rsl_event.specs.declared.signing.Signing.TheVariants.{Plain}
use Rattle.rsl_script.specs.declared.event_line.EventLine.{EventLine}
use Rattle.rsl_script.specs.declared.event_line.Happening.{Happening}
use Rattle.rsl_script.specs.declared.event_line.Happening.TheVariants.{Access, Accounting, Raw}
use Rattle.rsl_script.specs.declared.event_line.Happening.TheVariants as happenings
use Rattle.rsl_script.specs.declared.request.AccountingRequest.{AccountingRequest}
use Rattle.rsl_script.specs.declared.request.AccountingRequest.TheVariants.{Session, Server}
use Rattle.rsl_replay.specs.Access.{access_octets}
use Rattle.rsl_replay.specs.Accounting.{accounting_octets}
use Rattle.rsl_steps.specs.declared.step.Step.{Step}
use Rattle.rsl_steps.specs.declared.step.Step.TheVariants as steps
use Rattle.rsl_steps.specs.declared.step.Step.TheVariants.{Datagram}

-- the secret for packets from an address: its client's, or `none` if no client has the address
abbrev pub secret_by : Configuration → (client : Option ℕ) → List ℕ
secret_by config None = codes "none"
secret_by config (Some client) = secret_of config client

abbrev pub secret_at : Configuration → (address : List ℕ) → List ℕ
secret_at config address = secret_by config (client_number config address)

-- whether an Access-Request from an address is signed: if its client's must be
abbrev pub signing_by : Configuration → (client : Option ℕ) → Signing
signing_by config None = Plain
signing_by config (Some client) = signing_if (must_sign config client)

abbrev pub signing_at : Configuration → (address : List ℕ) → Signing
signing_at config address = signing_by config (client_number config address)

-- a datagram from port 1024 of an address
abbrev pub datagram : (moment : ℕ) → Port → (address octets : List ℕ) → Step
datagram moment port address octets =
    Datagram moment port (record { address = address; port = 1024 }) octets

-- a step for each shard, in the order of their numbers
abbrev pub for_each_shard : Configuration → (step : ℕ → Step) → List Step
for_each_shard config step = map step (range_with_len 0 config.settings.shards)

abbrev pub ticks : Configuration → (moment : ℕ) → List Step
ticks config moment = for_each_shard config (λ shard. steps.Tick shard moment)

abbrev pub sweeps : Configuration → (moment : ℕ) → Nas → (delay : ℕ) → List Step
sweeps config moment nas delay =
    for_each_shard config (λ shard. steps.Sweep shard moment nas delay)

-- the access server of a client: it has no name if the line has no NAS
abbrev pub nas_named : (client : ℕ) → (name : Option (List ℕ)) → Nas
nas_named client name = record { client = client; name = nas_name_of name None }

-- how many seconds ago it restarted: the delay of the line, if the configuration heeds it, else 0
abbrev pub delay_told : Configuration → (delay : Option ℕ) → ℕ
delay_told config delay = if config.settings.delay_time then unwrap_or delay 0 else 0

-- the sweeps before an Accounting-Request from an address: none if no client has it
abbrev pub sweeps_by : Configuration → (moment : ℕ) → (name : Option (List ℕ)) → (delay : Option ℕ)
    → (client : Option ℕ) → List Step
sweeps_by config moment name delay None = []
sweeps_by config moment name delay (Some client) =
    sweeps config moment (nas_named client name) (delay_told config delay)

-- only a report on the access server itself has sweeps before it
abbrev pub sweeps_before : Configuration → (moment : ℕ) → (address : List ℕ) → AccountingRequest
    → List Step
sweeps_before config moment address (Session status nas name session bundle class station) = []
sweeps_before config moment address (Server status nas delay) =
    sweeps_by config moment nas delay (client_number config address)

-- what happens at a moment
abbrev pub steps_at : Configuration → (boot moment : ℕ) → Happening → List Step
steps_at config boot moment (Access address request) =
    datagram moment Auth address
    (access_octets request (signing_at config address) (secret_at config address)) ∷ []
steps_at config boot moment (Accounting address request) =
    sweeps_before config moment address request
    ++ datagram moment Acct address (accounting_octets boot request (secret_at config address)) ∷ []
steps_at config boot moment (Raw address port octets) = datagram moment port address octets ∷ []
steps_at config boot moment happenings.Tick = ticks config moment

-- the steps of a line, for a server with this boot number
unfoldable pub steps_of_line : Configuration → (boot : ℕ) → EventLine → List Step
steps_of_line config boot line = steps_at config boot line.moment line.happening

abbrev pub steps_of_lines : Configuration → (boot : ℕ) → List EventLine → List Step
steps_of_lines config boot lines = flat_map (steps_of_line config boot) lines

-- the number of steps of a line
abbrev pub sweep_count : Configuration → AccountingRequest → (client : Option ℕ) → ℕ
sweep_count config (Server status nas delay) (Some client) = config.settings.shards
sweep_count config _ _ = 0

abbrev pub step_count_of : Configuration → Happening → ℕ
step_count_of config (Access address request) = 1
step_count_of config (Accounting address request) =
    sweep_count config request (client_number config address) + 1
step_count_of config (Raw address port octets) = 1
step_count_of config happenings.Tick = config.settings.shards

unfoldable pub step_count : Configuration → EventLine → ℕ
step_count config line = step_count_of config line.happening
