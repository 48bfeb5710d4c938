-- The access servers that hold links: of each one how many, and when one of them was last touched.
use Rattle.std.specs.Prelude.{◌≡◌, ℕ, max, Bool, ◌&&◌, List, [], ◌∷◌, ◌++◌, codes, length, take, slice_get, option_map, Option, if◌then◌else◌}
use Rattle.std.specs.Cmp.Lexicographic.{slice_cmp}
use Rattle.std.specs.List.{filter_map}
use Rattle.std.specs.List.Sorted.{IsPermutation, IsSorted}
use Rattle.std.specs.Ordering.{nat_cmp, on, then_cmp}
use Rattle.std.specs.declared.cmp.Ordering.{Ordering}
use Rattle.rld_values.specs.Values.{escaped, hex}
use Rattle.rsl_accounts.specs.Configuration.{Configuration, same_octets}
use Rattle.rsl_event.specs.Same.{same_name}
use Rattle.rsl_event.specs.declared.nas.NasName.{NasName}
use Rattle.rsl_event.specs.declared.nas.NasName.TheVariants.{Identifier, Address, Unnamed}
use Rattle.rsl_session.specs.declared.saved.SavedHolder.{SavedHolder}
use Rattle.rsl_session.specs.declared.saved.SavedHolder.TheVariants.{Reserved, Bound}
use Rattle.rsl_session.specs.declared.saved.SavedLink.{SavedLink}
use Rattle.rld_look.specs.Totals.{plus}
use Rattle.rld_look.specs.declared.servers.AccessServerLook.{AccessServerLook}
use Rattle.rld_look.specs.declared.servers.AccessServersLook.{AccessServersLook}
use Rattle.rld_look.specs.declared.servers.TheConstants.{MOST_SERVERS}

-- ---- a link: its access server, which holds this one

abbrev pub reserved_in : SavedHolder → ℕ
reserved_in (Reserved number) = 1
reserved_in (Bound session) = 0

abbrev pub bound_in : SavedHolder → ℕ
bound_in (Reserved number) = 0
bound_in (Bound session) = 1

-- nothing for a link whose client is not known
abbrev pub server_of : Configuration → SavedLink → Option AccessServerLook
server_of config link =
    option_map
    (λ client. record {
      client = client.address;
      nas = link.nas.name;
      reserved = reserved_in link.holder;
      bound = bound_in link.holder;
      last = link.touched;
    })
    (slice_get config.clients link.nas.client)

-- those of some links, in the order of the links
abbrev pub servers_of : Configuration → List SavedLink → List AccessServerLook
servers_of config links = filter_map (server_of config) links

-- ---- the order: by the client's address, then NAS-Identifiers, then NAS-IP-Addresses, then what has
-- no name, and of one kind by their octets

abbrev pub kind_of_name : NasName → ℕ
kind_of_name (Identifier name) = 0
kind_of_name (Address address) = 1
kind_of_name Unnamed = 2

abbrev pub octets_of_name : NasName → List ℕ
octets_of_name (Identifier name) = name
octets_of_name (Address address) = address
octets_of_name Unnamed = []

abbrev pub by_server : AccessServerLook → AccessServerLook → Ordering
by_server =
    then_cmp (on (λ server. server.client) (slice_cmp nat_cmp))
    (then_cmp (on (λ server. kind_of_name server.nas) nat_cmp)
    (on (λ server. octets_of_name server.nas) (slice_cmp nat_cmp)))

-- ---- one row for each access server

abbrev pub is_same_server : AccessServerLook → AccessServerLook → Bool
is_same_server one two = same_octets one.client two.client && same_name one.nas two.nas

-- what one access server holds in both: the sums, and the later touch
abbrev pub with_links : AccessServerLook → AccessServerLook → AccessServerLook
with_links one more = record {
  client = one.client;
  nas = one.nas;
  reserved = plus one.reserved more.reserved;
  bound = plus one.bound more.bound;
  last = max one.last more.last;
}

-- what one more adds to rows: to the last one, if it is of the same access server, else it is a row
abbrev pub with_server : List AccessServerLook → AccessServerLook → List AccessServerLook
with_server [] more = more ∷ []
with_server (one ∷ []) more = if is_same_server one more then with_links one more ∷ [] else one ∷ more ∷ []
with_server (one ∷ two ∷ rest) more = one ∷ with_server (two ∷ rest) more

abbrev pub joined_after : (rows servers : List AccessServerLook) → List AccessServerLook
joined_after rows [] = rows
joined_after rows (server ∷ servers) = joined_after (with_server rows server) servers

abbrev pub joined : List AccessServerLook → List AccessServerLook
joined servers = joined_after [] servers

-- all in their order, those of one access server joined to one row
abbrev pub AreJoined : (servers rows : List AccessServerLook) → Type 0
AreJoined servers rows =
    (sorted : List AccessServerLook) × IsPermutation servers sorted × IsSorted by_server sorted × (rows ≡ joined sorted)

-- how many rows there are, and the first ones
abbrev pub AreShown : (servers : List AccessServerLook) → AccessServersLook → Type 0
AreShown servers look =
    (rows : List AccessServerLook) × AreJoined servers rows
    × (look.number ≡ length rows) × (look.first.items ≡ take MOST_SERVERS rows)

-- ---- its name, as the list of the sessions has it

abbrev pub nas_word : NasName → List ℕ
nas_word (Identifier name) = codes "nas=" ++ escaped name
nas_word (Address address) = codes "nas-address=" ++ hex address
nas_word Unnamed = codes "unnamed"
