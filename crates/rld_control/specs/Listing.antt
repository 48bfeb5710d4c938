-- Asking for a page of the links of all accounts: the form, a client, a state, a number of seconds,
-- an access server, and the account with which the page begins, each a word. What is not given is
-- `\-`, which no other word is.
use Rattle.std.specs.Prelude.{ℕ, ◌==◌, List, ◌∷◌, ◌++◌, codes, length, Option, Some, None, bytes_eq, if◌then◌else◌}
use Rattle.std.specs.Int.{w64, from_be_bytes, to_be_bytes}
use Rattle.std.specs.Option.{option_and_then, option_map}
use Rattle.rsl_accounts.specs.Address.{address_of}
use Rattle.rsl_event.specs.declared.nas.NasName.{NasName}
use Rattle.rld_values.specs.Read.{octets_of_hex, octets_of_word}
use Rattle.rld_values.specs.Values.{dotted, hex, word}
use Rattle.rld_control.specs.Named.{nas_of_word, nas_word}
use Rattle.rld_control.specs.Words.{by_first_word}
use Rattle.rld_control.specs.declared.form.Form.{Form}
use Rattle.rld_control.specs.declared.form.Form.TheVariants.{Lines, Json}
use Rattle.rld_control.specs.declared.listing.Listing.{Listing}
use Rattle.rld_control.specs.declared.wanted.LinkState.{LinkState}
use Rattle.rld_control.specs.declared.wanted.LinkState.TheVariants.{Reserved, Live, Stale}
use Rattle.rld_control.specs.declared.wanted.Wanted.{Wanted}

-- ---- writing

abbrev pub form_word : Form → List ℕ
form_word Lines = codes "lines"
form_word Json = codes "json"

abbrev pub state_word : LinkState → List ℕ
state_word Reserved = codes "reserved"
state_word Live = codes "live"
state_word Stale = codes "stale"

-- a value's word, or `\-`
abbrev pub optional_word : {A : Type 0} → (A → List ℕ) → Option A → List ℕ
optional_word spelled None = codes "\\-"
optional_word spelled (Some value) = spelled value

unfoldable pub listing_words : Listing → List ℕ
listing_words listing =
    form_word listing.form
    ++ (32 ∷ (optional_word dotted listing.wanted.client
    ++ (32 ∷ (optional_word state_word listing.wanted.state
    ++ (32 ∷ (hex (to_be_bytes w64 listing.wanted.older)
    ++ (32 ∷ (optional_word nas_word listing.wanted.nas
    ++ (32 ∷ optional_word word listing.from)))))))))

-- ---- reading

-- what a word stands for, or that nothing is given
abbrev pub optional : {A : Type 0} → (List ℕ → Option A) → List ℕ → Option (Option A)
optional read word =
    if bytes_eq word (codes "\\-") then Some None else option_map (λ value. Some value) (read word)

abbrev pub form_of_word : List ℕ → Option Form
form_of_word word =
    if bytes_eq word (codes "lines") then Some Lines
    else if bytes_eq word (codes "json") then Some Json
    else None

abbrev pub state_of_word : List ℕ → Option LinkState
state_of_word word =
    if bytes_eq word (codes "reserved") then Some Reserved
    else if bytes_eq word (codes "live") then Some Live
    else if bytes_eq word (codes "stale") then Some Stale
    else None

-- eight octets as a number, high octet first
abbrev pub seconds_of : (octets : List ℕ) → Option ℕ
seconds_of octets = if length octets == 8 then Some (from_be_bytes w64 octets) else None

abbrev pub seconds_of_word : List ℕ → Option ℕ
seconds_of_word word = option_and_then seconds_of (octets_of_hex word)

abbrev pub listing : Form → (client : Option (List ℕ)) → Option LinkState → (older : ℕ)
    → (nas : Option (Option NasName)) → (from : Option (Option (List ℕ))) → Option Listing
listing form client state older None from = None
listing form client state older (Some nas) None = None
listing form client state older (Some nas) (Some from) =
    Some (record {
      form = form;
      wanted = record { nas = nas; client = client; state = state; older = older };
      from = from;
    })

abbrev pub with_names : Form → (client : Option (List ℕ)) → Option LinkState → (older : ℕ)
    → (nas from : List ℕ) → Option Listing
with_names form client state older nas from =
    listing form client state older (optional nas_of_word nas) (optional octets_of_word from)

abbrev pub with_older : Form → (client : Option (List ℕ)) → Option LinkState → (older words : List ℕ)
    → Option Listing
with_older form client state older words =
    option_and_then (λ older. by_first_word (with_names form client state older) None words)
    (seconds_of_word older)

abbrev pub with_state : Form → (client : Option (List ℕ)) → (state words : List ℕ) → Option Listing
with_state form client state words =
    option_and_then (λ state. by_first_word (with_older form client state) None words)
    (optional state_of_word state)

abbrev pub with_client : Form → (client words : List ℕ) → Option Listing
with_client form client words =
    option_and_then (λ client. by_first_word (with_state form client) None words)
    (optional address_of client)

abbrev pub with_form : (form words : List ℕ) → Option Listing
with_form form words =
    option_and_then (λ form. by_first_word (with_client form) None words) (form_of_word form)

-- the listing of six words
abbrev pub listing_of : (words : List ℕ) → Option Listing
listing_of words = by_first_word with_form None words
