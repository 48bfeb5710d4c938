-- The Accounting-Request by which an access server says that it goes down, and that its sessions
-- have ended: Accounting-Off (RFC 2866 sections 4.1 and 5.1).
use Rattle.std.specs.Prelude.{◌≡◌, ℕ, List, ◌∷◌, codes, Ok, Some}
use Rattle.rsl_accounts.specs.Configuration.{Configuration, client_number}
use Rattle.rsl_wire.specs.Attributes.{Attribute, attribute_of}
use Rattle.rsl_event.specs.Answer.{number_attribute}
use Rattle.rsl_event.specs.Meaning.{meaning}
use Rattle.rsl_event.specs.Request.{secret_of}
use Rattle.rsl_event.specs.declared.codes.TheConstants.{ACCT_STATUS_TYPE, ACCT_SESSION_ID, ACCOUNTING_OFF}
use Rattle.rsl_event.specs.declared.event.Source.{Source}
use Rattle.rsl_event.specs.declared.meaning.Meaning.TheVariants.{Restart}
use Rattle.rsl_event.specs.declared.meaning.Port.TheVariants.{Acct}
use Rattle.rsl_shard.specs.declared.moved.Move.{Move}
use Rattle.rsl_shard.specs.declared.moved.Move.TheVariants.{Sweep}
use Rattle.rld_control.specs.Stops.{nas_attributes, request_octets}
use Rattle.rld_control.specs.declared.named.NamedServer.{NamedServer}
use Rattle.rld_control.specs.declared.off.Off.{Off}

-- its session is the access server's own, which has no account: `0`
abbrev pub off_attributes : NamedServer → List Attribute
off_attributes named =
    number_attribute ACCT_STATUS_TYPE ACCOUNTING_OFF
    ∷ attribute_of ACCT_SESSION_ID (codes "0")
    ∷ nas_attributes named.nas

abbrev pub off_octets : NamedServer → (secret : List ℕ) → List ℕ
off_octets named secret = request_octets (off_attributes named) secret

-- the Accounting-Off of the access server that is named, at its client
pub record IsOffOf (config : Configuration) (named : NamedServer) (off : Off) : Type 0 where
  pub client : client_number config named.client ≡ Some off.nas.client
  pub nas : off.nas.name ≡ named.nas
  pub octets : off.octets.items ≡ off_octets named (secret_of config off.nas.client)

-- its datagram, from the client's address, means to the server that this access server restarts now
abbrev pub MeansOff : Configuration → (boot : ℕ) → Source → Off → Type 0
MeansOff config boot source off =
    meaning config boot Acct source off.octets.items ≡ Ok (Restart off.nas 0)

-- the move that it is to the books at a moment
abbrev pub sweep_of : Off → (moment : ℕ) → Move
sweep_of off moment = Sweep moment off.nas 0
