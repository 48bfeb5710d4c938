-- Message-Authenticators (RFC 3579 section 3.2): what an Access-Request has to have, and which
-- replies get one.
use Rattle.std.specs.Prelude.{ℕ, ◌+◌, ◌==◌, ◌&&◌, ◌||◌, nat_lt, Bool, true, false, List, [], ◌∷◌, length, replicate, slice_get, if◌then◌else◌, Option, Some, None}
use Rattle.std.specs.Option.{option_map_or}
use Rattle.rsl_accounts.specs.Configuration.{Configuration}
use Rattle.rsl_accounts.specs.Version.{unsigned_rule}
use Rattle.rsl_accounts.specs.declared.unsigned_rule.UnsignedRule.{UnsignedRule}
use Rattle.rsl_accounts.specs.declared.unsigned_rule.UnsignedRule.TheVariants.{Trusted, Guarded}
use Rattle.rsl_auth.specs.Signature.{is_signed, signed}
use Rattle.rsl_wire.specs.Attributes.{Attribute, attribute_of, octets_before}
use Rattle.rsl_wire.specs.Packet.{Fields, packet_octets}
use Rattle.rsl_event.specs.Request.{attribute_count, secret_of, text_of}
use Rattle.rsl_event.specs.declared.meaning.Dropped.{Dropped}
use Rattle.rsl_event.specs.declared.meaning.Dropped.TheVariants.{BadSignature, Unsigned, UnsignedProxy}
use Rattle.rsl_event.specs.declared.signing.Signing.{Signing}
use Rattle.rsl_event.specs.declared.signing.Signing.TheVariants.{Plain, Signed}
use Rattle.rsl_event.specs.declared.words.Said.{Said}
use Rattle.rsl_event.specs.declared.words.Said.TheVariants as words
use Rattle.rsl_event.specs.declared.codes.TheConstants.{MESSAGE_AUTHENTICATOR, PROXY_STATE}

-- whether a client has to sign its requests
abbrev pub must_sign : Configuration → (client : ℕ) → Bool
must_sign config client =
    option_map_or (λ found. found.signed) (slice_get config.clients client) false

-- whether there is a Message-Authenticator among the attributes
abbrev pub has_signature : List Attribute → Bool
has_signature attributes = nat_lt 0 (attribute_count MESSAGE_AUTHENTICATOR attributes)

-- the offset of the value of the first Message-Authenticator in the packet: after the header of 20
-- octets, the attributes before it, its Type and its Length
abbrev pub signature_offset : List Attribute → ℕ
signature_offset attributes = 22 + octets_before MESSAGE_AUTHENTICATOR attributes

-- there is exactly one Message-Authenticator, of 16 octets, and it is that of the packet
unfoldable pub has_right_signature : Fields → List Attribute → (secret : List ℕ) → Bool
has_right_signature fields attributes secret =
    attribute_count MESSAGE_AUTHENTICATOR attributes == 1
    && length (text_of MESSAGE_AUTHENTICATOR attributes) == 16
    && is_signed (packet_octets fields) (signature_offset attributes) secret

-- how a configuration treats requests without a Message-Authenticator
abbrev pub rule_of : Configuration → UnsignedRule
rule_of config = unsigned_rule config.settings.version

abbrev pub is_guarded : UnsignedRule → Bool
is_guarded Trusted = false
is_guarded Guarded = true

-- a guarded request may have no Proxy-State, which the answer repeats: with one of his choice, a
-- man in the middle could turn a reject into an accept (CVE-2024-3596)
abbrev pub unsigned_drop : UnsignedRule → List Attribute → Option Dropped
unsigned_drop rule attributes =
    if is_guarded rule && nat_lt 0 (attribute_count PROXY_STATE attributes)
    then Some UnsignedProxy
    else None

-- why a request with these attributes is dropped for its Message-Authenticator, if it is
abbrev pub signature_drop : Configuration → (client : ℕ) → Fields → List Attribute → Option Dropped
signature_drop config client fields attributes =
    if has_signature attributes
    then (if has_right_signature fields attributes (secret_of config client) then None
    else Some BadSignature)
    else (if must_sign config client then Some Unsigned
    else unsigned_drop (rule_of config) attributes)

-- an Access-Accept or an Access-Reject may be signed, and an Accounting-Response never is
abbrev pub is_access : Said → Bool
is_access words.Account = false
is_access _ = true

-- signed if it is to be
abbrev pub signing_if : Bool → Signing
signing_if false = Plain
signing_if true = Signed

-- the signing of a reply: it is signed if it answers an Access-Request with a
-- Message-Authenticator, or any under a guard
abbrev pub reply_signing : UnsignedRule → Said → (request : List Attribute) → Signing
reply_signing rule word request =
    signing_if (is_access word && (is_guarded rule || has_signature request))

-- a Message-Authenticator as the first attribute, before its value is known
abbrev pub unsigned_signature : Attribute
unsigned_signature = attribute_of MESSAGE_AUTHENTICATOR (replicate 16 0)

-- the Message-Authenticator of a packet, if it is signed
abbrev pub signature_attributes : Signing → List Attribute
signature_attributes Plain = []
signature_attributes Signed = unsigned_signature ∷ []

-- a packet, signed if it is to be: the value of its Message-Authenticator is at octet 22, and the
-- Request Authenticator counts as its Authenticator (RFC 3579 section 3.2)
abbrev pub signed_by : Signing → (packet request_auth secret : List ℕ) → List ℕ
signed_by Plain packet request_auth secret = packet
signed_by Signed packet request_auth secret = signed packet 22 request_auth secret
