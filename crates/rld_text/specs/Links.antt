-- The links of an account, a line each: `NAME CLIENT NAS SESSION STATE age=SECS bundle=ID
-- station=ID`, the last two where the link has them. The first four words name the session, and can
-- follow `free`. A reserved link has no session yet: it has `\-` instead, which no session is. Or a
-- JSON object, a line each: the name of an access server is `nas`, its NAS-Identifier, or
-- `nas_address`, the hexadecimal digits of its NAS-IP-Address, or a `nas` that is null; `free` has
-- the four words.
use Rattle.std.specs.Prelude.{ℕ, ◌-◌, List, [], ◌∷◌, ◌++◌, codes, nat_lt, if◌then◌else◌, length, slice_get, Option, None, Some}
use Rattle.std.specs.List.{flat_map}
use Rattle.std.specs.Option.{option_map_or}
use Rattle.rsl_accounts.specs.Configuration.{Configuration}
use Rattle.rsl_session.specs.declared.saved.SavedHolder.{SavedHolder}
use Rattle.rsl_session.specs.declared.saved.SavedHolder.TheVariants.{Reserved, Bound}
use Rattle.rsl_session.specs.declared.saved.SavedLink.{SavedLink}
use Rattle.rld_control.specs.Named.{server_words}
use Rattle.rld_control.specs.declared.form.Form.{Form}
use Rattle.rld_control.specs.declared.form.Form.TheVariants.{Lines, Json}
use Rattle.rsl_event.specs.declared.nas.NasName.{NasName}
use Rattle.rsl_event.specs.declared.nas.NasName.TheVariants.{Identifier, Address, Unnamed}
use Rattle.rld_values.specs.Values.{dotted, hex, word}
use Rattle.rld_text.specs.Json.{json_string, number_member, string_member}
use Rattle.rld_text.specs.LineWords.{number_word, octets_word_if}

-- live if touched less than the live time ago, else stale
abbrev pub bound_state : (live age : ℕ) → List ℕ
bound_state live age = if nat_lt age live then codes " live" else codes " stale"

-- the session and the state
abbrev pub holder_words : (live age : ℕ) → SavedHolder → List ℕ
holder_words live age (Reserved number) = codes " \\- reserved"
holder_words live age (Bound session) = 32 ∷ (word session ++ bound_state live age)

-- the address of a client
abbrev pub client_address : Configuration → (client : ℕ) → List ℕ
client_address config client = option_map_or (λ client. client.address) (slice_get config.clients client) []

-- the ids of its bundle and of its station, where it has them
unfoldable pub ids_words : SavedLink → List ℕ
ids_words link =
    octets_word_if (codes "bundle") link.bundle ++ octets_word_if (codes "station") link.station

abbrev pub link_line : Configuration → (name : List ℕ) → (live now : ℕ) → SavedLink → List ℕ
link_line config name live now link =
    server_words name (client_address config link.nas.client) link.nas.name
    ++ holder_words live (now - link.touched) link.holder
    ++ number_word (codes "age") (now - link.touched)
    ++ ids_words link
    ++ codes "\n"

-- ---- a link as an object

unfoldable pub nas_address_member : (address : List ℕ) → List ℕ
nas_address_member address = codes ",\"nas_address\":\"" ++ (hex address ++ codes "\"")

abbrev pub nas_member : NasName → List ℕ
nas_member (Identifier name) = string_member (codes "nas") name
nas_member (Address address) = nas_address_member address
nas_member Unnamed = codes ",\"nas\":null"

-- the account and the access server of a link
unfoldable pub server_members : (account client : List ℕ) → NasName → List ℕ
server_members account client nas =
    codes "{\"account\":" ++ (json_string account
    ++ (codes ",\"client\":\"" ++ (dotted client ++ (codes "\"" ++ nas_member nas))))

-- live if touched less than the live time ago, else stale
abbrev pub bound_member : (live age : ℕ) → List ℕ
bound_member live age = if nat_lt age live then codes ",\"state\":\"live\"" else codes ",\"state\":\"stale\""

-- the session and the state
abbrev pub holder_members : (live age : ℕ) → SavedHolder → List ℕ
holder_members live age (Reserved number) = codes ",\"session\":null,\"state\":\"reserved\""
holder_members live age (Bound session) = string_member (codes "session") session ++ bound_member live age

-- octets, if there are any
abbrev pub octets_member_if : (name : List ℕ) → Option (List ℕ) → List ℕ
octets_member_if name None = []
octets_member_if name (Some octets) = string_member name octets

-- the ids of its bundle and of its station, where it has them
unfoldable pub ids_members : SavedLink → List ℕ
ids_members link =
    octets_member_if (codes "bundle") link.bundle ++ octets_member_if (codes "station") link.station

-- the four words for `free`, if there is a session
abbrev pub free_member : (server : List ℕ) → SavedHolder → List ℕ
free_member server (Reserved number) = []
free_member server (Bound session) = string_member (codes "free") (server ++ 32 ∷ word session)

unfoldable pub link_object : Configuration → (name : List ℕ) → (live now : ℕ) → SavedLink → List ℕ
link_object config name live now link =
    server_members name (client_address config link.nas.client) link.nas.name
    ++ (holder_members live (now - link.touched) link.holder
    ++ (number_member (codes "age") (now - link.touched)
    ++ (ids_members link
    ++ (free_member (server_words name (client_address config link.nas.client) link.nas.name) link.holder ++ codes "}\n"))))

-- ---- all links

abbrev pub link_text : Form → Configuration → (name : List ℕ) → (live now : ℕ) → SavedLink → List ℕ
link_text Lines config name live now link = link_line config name live now link
link_text Json config name live now link = link_object config name live now link

-- the text of a link, if its client is known
abbrev pub text_if_known : Form → Configuration → (name : List ℕ) → (live now : ℕ) → SavedLink → List ℕ
text_if_known form config name live now link =
    if nat_lt link.nas.client (length config.clients) then link_text form config name live now link else []

-- the links of an account with this name and live time, at this moment
abbrev pub links_text : Form → Configuration → (name : List ℕ) → (live now : ℕ) → List SavedLink → List ℕ
links_text form config name live now links = flat_map (text_if_known form config name live now) links ++ codes "ok\n"
