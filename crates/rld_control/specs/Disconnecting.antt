-- What an operator is told of a session that its access server is to disconnect (RFC 5176).
use Rattle.std.specs.Prelude.{ℕ, List, ◌++◌, codes, Bool, bytes_eq, Option, Some, None, Result, Ok, Err, if◌then◌else◌, slice_get}
use Rattle.std.specs.Fmt.{decimal}
use Rattle.std.specs.Option.{option_and_then}
use Rattle.rsl_accounts.specs.Configuration.{Configuration, client_number}
use Rattle.rsl_accounts.specs.declared.client.Client.{Client}
use Rattle.rld_control.specs.Cause.{cause_name}
use Rattle.rld_control.specs.declared.disconnected.DisconnectFault.{DisconnectFault}
use Rattle.rld_control.specs.declared.disconnected.DisconnectFault.TheVariants.{NoPort, NotHeld, Busy, NoSocket}
use Rattle.rld_control.specs.declared.disconnected.Disconnected.{Disconnected}
use Rattle.rld_control.specs.declared.disconnected.Disconnected.TheVariants.{Done, Unrecorded, Refused, Unanswered}

-- ---- where nothing is sent

abbrev pub fault_octets : DisconnectFault → List ℕ
fault_octets NoPort = codes "error the client has no `disconnect` in the account file\n"
fault_octets NotHeld = codes "error no such session\n"
fault_octets Busy = codes "error busy: 16 sessions are being disconnected\n"
fault_octets NoSocket = codes "error no socket\n"

-- the port of the client with this address, if its table has one
abbrev pub port_in : Option Client → Option ℕ
port_in None = None
port_in (Some client) = client.disconnect

abbrev pub port_of : Configuration → (address : List ℕ) → Option ℕ
port_of config address =
    option_and_then (λ (number : ℕ). port_in (slice_get config.clients number)) (client_number config address)

-- a session goes to its client's port, if a link is bound to it
abbrev pub sent_to : (port : Option ℕ) → (is_held : Bool) → Result ℕ DisconnectFault
sent_to None is_held = Err NoPort
sent_to (Some port) is_held = if is_held then Ok port else Err NotHeld

-- ---- where something is sent

-- a cause by its name, or else by its number
abbrev pub named_cause : Option (List ℕ) → (cause : ℕ) → List ℕ
named_cause (Some name) cause = codes ": " ++ name
named_cause None cause = codes ": Error-Cause " ++ decimal cause

abbrev pub cause_text : (cause : ℕ) → List ℕ
cause_text cause = named_cause (cause_name cause) cause

abbrev pub refusal : Option ℕ → List ℕ
refusal None = codes "the access server refuses"
refusal (Some cause) = codes "the access server refuses" ++ cause_text cause

abbrev pub unanswered : List ℕ
unanswered = codes "no answer from the access server"

-- the answer: lines and `ok`, or `error` and why
abbrev pub answer_octets : Disconnected → List ℕ
answer_octets Done = codes "disconnected\nok\n"
answer_octets Unrecorded = codes "error disconnected, but not recorded, and so not freed\n"
answer_octets (Refused cause) = codes "error " ++ (refusal cause ++ codes "\n")
answer_octets Unanswered = codes "error " ++ (unanswered ++ codes "\n")

abbrev pub is_unanswered : (text : List ℕ) → Bool
is_unanswered text = bytes_eq text unanswered
