-- A session as an operator names it: by its account, the address of its client, the name of its
-- access server, and its id.
use Rattle.std.specs.Prelude.{ℕ, List, ◌∷◌, ◌++◌, codes, take, drop, Option, Some, None, bytes_eq, if◌then◌else◌}
use Rattle.std.specs.Option.{option_map}
use Rattle.rsl_accounts.specs.Address.{address_of}
use Rattle.rsl_event.specs.declared.nas.NasName.{NasName}
use Rattle.rsl_event.specs.declared.nas.NasName.TheVariants.{Identifier, Address, Unnamed}
use Rattle.rld_values.specs.Read.{octets_of_hex, octets_of_word, unescaped}
use Rattle.rld_values.specs.Values.{dotted, escaped, hex, word}
use Rattle.rld_control.specs.Words.{by_first_word}
use Rattle.rld_control.specs.declared.named.NamedServer.{NamedServer}
use Rattle.rld_control.specs.declared.named.NamedSession.{NamedSession}

-- ---- writing

-- the name of an access server, by its NAS-Identifier or its NAS-IP-Address
abbrev pub nas_word : NasName → List ℕ
nas_word (Identifier name) = codes "nas=" ++ escaped name
nas_word (Address address) = codes "nas-address=" ++ hex address
nas_word Unnamed = codes "unnamed"

-- the words before the session's
abbrev pub server_words : (account client : List ℕ) → NasName → List ℕ
server_words account client nas = word account ++ (32 ∷ (dotted client ++ (32 ∷ nas_word nas)))

-- the words of an access server at a client
unfoldable pub named_server_words : NamedServer → List ℕ
named_server_words named = dotted named.client ++ (32 ∷ nas_word named.nas)

unfoldable pub session_words : NamedSession → List ℕ
session_words named = server_words named.account named.client named.nas ++ (32 ∷ word named.session)

-- ---- reading

abbrev pub nas_of_word : List ℕ → Option NasName
nas_of_word word =
    if bytes_eq word (codes "unnamed") then Some Unnamed
    else if bytes_eq (take 4 word) (codes "nas=") then option_map Identifier (unescaped (drop 4 word))
    else if bytes_eq (take 12 word) (codes "nas-address=") then option_map Address (octets_of_hex (drop 12 word))
    else None

abbrev pub named : (client account : Option (List ℕ)) → Option NasName → (session : Option (List ℕ))
    → Option NamedSession
named None account nas session = None
named (Some client) None nas session = None
named (Some client) (Some account) None session = None
named (Some client) (Some account) (Some nas) None = None
named (Some client) (Some account) (Some nas) (Some session) =
    Some (record { account = account; client = client; nas = nas; session = session })

abbrev pub named_by : (account client nas session : List ℕ) → Option NamedSession
named_by account client nas session =
    named (address_of client) (octets_of_word account) (nas_of_word nas) (octets_of_word session)

abbrev pub with_client : (account client words : List ℕ) → Option NamedSession
with_client account client words = by_first_word (named_by account client) None words

abbrev pub with_account : (account words : List ℕ) → Option NamedSession
with_account account words = by_first_word (with_client account) None words

-- the session of four words
abbrev pub named_session_of : (words : List ℕ) → Option NamedSession
named_session_of words = by_first_word with_account None words

abbrev pub named_server : (client : Option (List ℕ)) → Option NasName → Option NamedServer
named_server None nas = None
named_server (Some client) None = None
named_server (Some client) (Some nas) = Some (record { client = client; nas = nas })

abbrev pub server_by : (client nas : List ℕ) → Option NamedServer
server_by client nas = named_server (address_of client) (nas_of_word nas)

-- the access server of two words
abbrev pub named_server_of : (words : List ℕ) → Option NamedServer
named_server_of words = by_first_word server_by None words
