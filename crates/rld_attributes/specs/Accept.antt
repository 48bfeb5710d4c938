-- An accept of an account, as the server answers to a request that has nothing to repeat.
use Rattle.std.specs.Prelude.{ℕ, List, [], replicate, Option, option_map}
use Rattle.rsl_wire.specs.Packet.{Fields}
use Rattle.rsl_accounts.specs.Configuration.{Configuration}
use Rattle.rsl_reply.specs.declared.dictionary.Dictionary.{Dictionary}
use Rattle.rld_attributes.specs.Listed.{attributes_of, listed}
use Rattle.rsl_event.specs.Answer.{answer_to}
use Rattle.rsl_event.specs.declared.event.Decision.TheVariants.{Accept}
use Rattle.rsl_event.specs.declared.meaning_kind.MeaningKind.TheVariants.{Ask}

-- an Access-Request without attributes (RFC 2865 section 4.1)
abbrev pub bare_request : Fields
bare_request = record { code = 1; id = 0; authenticator = replicate 16 0; attributes = [] }

-- the octets of an accept
unfoldable pub accept_of : Configuration → (account : ℕ) → List ℕ
accept_of config account = answer_to config 0 0 bare_request (Ask account) (Accept 0)

-- what an accept has, of an account that is there
abbrev pub accept_listed : Dictionary → Configuration → (account : Option ℕ) → Option (List ℕ)
accept_listed names config account =
    option_map (λ number. listed names (attributes_of (accept_of config number))) account
