-- What is answered: the octets of a reply (RFC 2865 sections 4.2 and 4.3, RFC 2866 section 4.2),
-- and its word.
use Rattle.std.specs.Prelude.{ℕ, List, [], ◌∷◌, ◌++◌, replicate, codes, slice_get, Option, Some, None, if◌then◌else◌}
use Rattle.std.specs.Option.{option_map_or}
use Rattle.std.specs.Int.{w32, w64, to_be_bytes}
use Rattle.rsl_accounts.specs.Configuration.{Configuration}
use Rattle.rsl_accounts.specs.declared.entry.Entry.{Entry}
use Rattle.rsl_auth.specs.Authenticator.{sealed}
use Rattle.rsl_wire.specs.Attributes.{Attribute, attribute_of, attributes_in, list_octets}
use Rattle.rsl_wire.specs.Packet.{Fields, packet_octets}
use Rattle.rsl_event.specs.MeaningKind.{kind_of}
use Rattle.rsl_event.specs.Request.{proxy_states, secret_of}
use Rattle.rsl_event.specs.Signature.{rule_of, reply_signing, signature_attributes, signed_by}
use Rattle.rsl_event.specs.declared.event.Decision.{Decision}
use Rattle.rsl_event.specs.declared.event.Decision.TheVariants as decisions
use Rattle.rsl_event.specs.declared.meaning_kind.MeaningKind.{MeaningKind}
use Rattle.rsl_event.specs.declared.meaning_kind.MeaningKind.TheVariants as kinds
use Rattle.rsl_event.specs.declared.meaning.Meaning.{Meaning}
use Rattle.rsl_event.specs.declared.words.Said.{Said}
use Rattle.rsl_event.specs.declared.words.Said.TheVariants as words
use Rattle.rsl_event.specs.declared.codes.TheConstants.{ACCESS_ACCEPT, ACCESS_REJECT, ACCOUNTING_RESPONSE, CLASS, PORT_LIMIT, SERVICE_TYPE, FRAMED_PROTOCOL, SESSION_TIMEOUT, IDLE_TIMEOUT, ACCT_INTERIM_INTERVAL, REPLY_MESSAGE}

-- the word for a decision on an ask; an ask that is done was not accepted
abbrev pub said_of : Decision → Said
said_of (decisions.Accept number) = words.Accept number
said_of decisions.LimitReject = words.LimitReject
said_of decisions.Done = words.LimitReject

-- the word for the answer to a meaning of this kind, which depends on the decision only for an ask
abbrev pub said_to : MeaningKind → Decision → Said
said_to kinds.Bare decision = words.Reject
said_to kinds.Reject decision = words.Reject
said_to (kinds.Ask account) decision = said_of decision
said_to kinds.Account decision = words.Account

-- the word for the answer
abbrev pub said : Meaning → Decision → Said
said meaning decision = said_to (kind_of meaning) decision

-- the Code of a reply
abbrev pub code_of : Said → ℕ
code_of (words.Accept number) = ACCESS_ACCEPT
code_of words.LimitReject = ACCESS_REJECT
code_of words.Reject = ACCESS_REJECT
code_of words.Account = ACCOUNTING_RESPONSE

-- an attribute whose value is a number of four octets
abbrev pub number_attribute : (kind number : ℕ) → Attribute
number_attribute kind number = attribute_of kind (to_be_bytes w32 number)

-- an attribute of four octets, if there is a number
abbrev pub optional_attribute : (kind : ℕ) → Option ℕ → List Attribute
optional_attribute kind None = []
optional_attribute kind (Some number) = number_attribute kind number ∷ []

-- the value of Class: the boot number and the accept number, eight octets each, high octet first
abbrev pub class_octets : (boot number : ℕ) → List ℕ
class_octets boot number = to_be_bytes w64 boot ++ to_be_bytes w64 number

-- the Class of an accept
abbrev pub class_attribute : (boot number : ℕ) → Attribute
class_attribute boot number = attribute_of CLASS (class_octets boot number)

-- the Port-Limit of an account's accepts, if they have one
abbrev pub port_limit_of : Entry → Option ℕ
port_limit_of entry = if entry.port_limit then Some entry.rules.ports else None

-- the attributes of an accept of an account, but those that its file has for it
unfoldable pub accept_attributes : (boot number : ℕ) → Entry → List Attribute
accept_attributes boot number entry =
    class_attribute boot number
    ∷ optional_attribute PORT_LIMIT (port_limit_of entry)
    ++ optional_attribute SERVICE_TYPE entry.service_type
    ++ optional_attribute FRAMED_PROTOCOL entry.framed_protocol
    ++ optional_attribute SESSION_TIMEOUT entry.session_timeout
    ++ optional_attribute IDLE_TIMEOUT entry.idle_timeout
    ++ optional_attribute ACCT_INTERIM_INTERVAL entry.interim

-- the octets of an accept of an account: after those its reply attributes, as they stand
abbrev pub accept_octets : (boot number : ℕ) → Entry → List ℕ
accept_octets boot number entry =
    list_octets (accept_attributes boot number entry) ++ entry.reply

-- what a limit reject says
abbrev pub limit_attributes : List Attribute
limit_attributes = attribute_of REPLY_MESSAGE (codes "Session limit reached") ∷ []

-- what a decision on an ask says
abbrev pub decided_octets : Configuration → (boot account : ℕ) → Decision → List ℕ
decided_octets config boot account (decisions.Accept number) =
    option_map_or (accept_octets boot number) (slice_get config.accounts account) []
decided_octets config boot account decisions.LimitReject = list_octets limit_attributes
decided_octets config boot account decisions.Done = list_octets limit_attributes

-- what the server says in a reply
abbrev pub said_octets : Configuration → (boot : ℕ) → MeaningKind → Decision → List ℕ
said_octets config boot (kinds.Ask account) decision =
    decided_octets config boot account decision
said_octets config boot _ decision = []

-- the request's attributes that a reply repeats
abbrev pub repeated_attributes : List Attribute → MeaningKind → List Attribute
repeated_attributes attributes kinds.Bare = []
repeated_attributes attributes _ = proxy_states attributes

-- the octets of the attributes of a reply, its Message-Authenticator not yet signed: this stands first,
-- and Proxy-States last, as they came
abbrev pub reply_octets : Configuration → (boot : ℕ) → List Attribute → MeaningKind → Decision
    → List ℕ
reply_octets config boot attributes kind decision =
    list_octets (signature_attributes (reply_signing (rule_of config) (said_to kind decision) attributes))
    ++ said_octets config boot kind decision
    ++ list_octets (repeated_attributes attributes kind)

-- the reply before it is signed and sealed
abbrev pub unsigned_reply : Configuration → (boot : ℕ) → Fields → MeaningKind → Decision → List ℕ
unsigned_reply config boot fields kind decision = packet_octets (record {
  code = code_of (said_to kind decision);
  id = fields.id;
  authenticator = replicate 16 0;
  attributes = reply_octets config boot (attributes_in fields.attributes) kind decision;
})

-- the octets of the reply to a packet of a client with a meaning of this kind: signed if it is to
-- be, and then sealed, with the client's secret
unfoldable pub answer_to : Configuration → (boot client : ℕ) → Fields → MeaningKind → Decision → List ℕ
answer_to config boot client fields kind decision =
    sealed
    (signed_by
    (reply_signing (rule_of config) (said_to kind decision) (attributes_in fields.attributes))
    (unsigned_reply config boot fields kind decision)
    fields.authenticator (secret_of config client))
    fields.authenticator (secret_of config client)

-- the octets of the reply to a packet of a client with this meaning
abbrev pub answer : Configuration → (boot client : ℕ) → Fields → Meaning → Decision → List ℕ
answer config boot client fields meaning decision =
    answer_to config boot client fields (kind_of meaning) decision
