-- What an operator should know of an account file that is right.
use Rattle.std.specs.Prelude.{ℕ, ◌+◌, ◌*◌, Bool, nat_lt, if◌then◌else◌, List, [], ◌∷◌, ◌++◌, length, map}
use Rattle.std.specs.List.{flat_map}
use Rattle.std.specs.Prelude.{◌/◌}
use Rattle.rsl_accounts.specs.Configuration.{Configuration, client_number}
use Rattle.rsl_accounts.specs.Version.{unsigned_rule}
use Rattle.rsl_accounts.specs.declared.unsigned_rule.UnsignedRule.{UnsignedRule}
use Rattle.rsl_accounts.specs.declared.unsigned_rule.UnsignedRule.TheVariants.{Trusted, Guarded}
use Rattle.rsl_accounts.specs.declared.client.Client.{Client}
use Rattle.rsl_accounts.specs.declared.entry.Entry.{Entry}
use Rattle.rsl_accounts.specs.declared.rules.Rules.{Rules}
use Rattle.rld_config.specs.declared.warning.Warning.{Warning}
use Rattle.rld_config.specs.declared.warning.Warning.TheVariants.{NotSigned, Unsigned, ShortSecrets, UnsignedNetworks, Prefixed, OthersRead, Shards, Memory}
use Rattle.rld_networks.specs.declared.network.Network.{Network}
use Rattle.rld_networks.specs.declared.prefix.Prefix.{Prefix}
use Rattle.rld_config.specs.Server.{is_unsigned_at}
use Rattle.rld_config.specs.Trust.{others_read}

-- the address of a client whose requests need no signature, and of one whose secret has under 16
-- octets (RFC 2865 section 3); the prefix of a network that stands for a client that need not sign
abbrev pub unsigned_address : Client → List (List ℕ)
unsigned_address client = if client.signed then [] else client.address ∷ []

abbrev pub short_secret : Client → List (List ℕ)
short_secret client = if nat_lt (length client.secret) 16 then client.address ∷ [] else []

abbrev pub unsigned_prefix : Configuration → Network → List Prefix
unsigned_prefix config network =
    if is_unsigned_at config (client_number config network.client) then network.prefix ∷ [] else []

-- how many there are and the first of them, if there are any
abbrev pub counted : {X : Type 0} → (ℕ → X → Warning) → List X → List Warning
counted warning [] = []
counted warning (first ∷ rest) = warning (length (first ∷ rest)) first ∷ []

-- what version 3 would do better
abbrev pub advice : Configuration → List Network → List Warning
advice config networks =
    counted Unsigned (flat_map unsigned_address config.clients)
    ++ counted ShortSecrets (flat_map short_secret config.clients)
    ++ counted UnsignedNetworks (flat_map (unsigned_prefix config) networks)

-- what an operator learns of clients: in version 3 each that need not sign
abbrev pub client_warnings : UnsignedRule → Configuration → List Network → List Warning
client_warnings Guarded config networks =
    map NotSigned (flat_map unsigned_address config.clients)
client_warnings Trusted config networks = advice config networks

-- a network: its access servers that do not name themselves count as one
abbrev pub network_warnings : List Network → List Warning
network_warnings networks = map (λ network. Prefixed network.prefix) networks

-- that everybody can read a file of this mode
abbrev pub mode_warning : (mode : ℕ) → List Warning
mode_warning mode = if others_read mode then OthersRead ∷ [] else []

-- that the number of shards, where it is over one, counts for nothing here
abbrev pub shards_warning : (shards : ℕ) → List Warning
shards_warning shards = if nat_lt 1 shards then Shards shards ∷ [] else []

-- the octets of a book: 3,522 with one link, and 223 for each further one
unfoldable pub book_octets : Rules → ℕ
book_octets rules = 3299 + 223 * (rules.places * rules.ports)

abbrev pub books_octets : List Entry → ℕ
books_octets [] = 0
books_octets (entry ∷ entries) = book_octets entry.rules + books_octets entries

-- megabytes, rounded up
abbrev pub megabytes : ℕ → ℕ
megabytes octets = (octets + 999999) / 1000000

-- all warnings: of clients, of each network, of the file, of its shards, of its accounts
unfoldable pub warnings_of : Configuration → List Network → (mode : ℕ) → List Warning
warnings_of config networks mode =
    client_warnings (unsigned_rule config.settings.version) config networks
    ++ network_warnings networks
    ++ mode_warning mode
    ++ shards_warning config.settings.shards
    ++ Memory (megabytes (books_octets config.accounts)) ∷ []
