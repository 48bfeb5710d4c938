-- The tables of the page: the fullest accounts, how datagrams ended, the
-- access servers, what was refused lately, and the sockets.
use Rattle.std.specs.Prelude.{ℕ, ◌-◌, ◌==◌, nat_le, nat_lt, List, [], ◌∷◌, ◌++◌, codes, length, Option, None, Some, if◌then◌else◌}
use Rattle.std.specs.Fmt.{decimal}
use Rattle.std.specs.List.{flat_map}
use Rattle.std.specs.Net.Text.{ip_text, ipv6_text}
use Rattle.std.specs.Net.Addr.{segments_of}
use Rattle.std.specs.declared.net.ip_addr.IpAddr.{IpAddr}
use Rattle.rld_counts.specs.Counts.{count_in, total_at}
use Rattle.rld_counts.specs.Fates.{at, causes_at, is_answer, kind_of, words_of}
use Rattle.rld_counts.specs.declared.cause.Cause.{Cause}
use Rattle.rld_counts.specs.declared.gate.Gate.{Gate}
use Rattle.rld_counts.specs.declared.gate.Gate.TheVariants.{Auth, Acct, Ask}
use Rattle.rld_look.specs.AccessServers.{nas_word}
use Rattle.rld_look.specs.declared.look.AccountLook.{AccountLook}
use Rattle.rld_look.specs.declared.look.Look.{Look}
use Rattle.rld_look.specs.declared.look.SocketLook.{SocketLook}
use Rattle.rld_look.specs.declared.refusal.Refusal.{Refusal}
use Rattle.rld_look.specs.declared.servers.AccessServerLook.{AccessServerLook}
use Rattle.rld_values.specs.Values.{dotted, word}
use Rattle.rsl_event.specs.declared.event.Source.{Source}
use Rattle.rsl_event.specs.declared.nas.NasName.{NasName}
use Rattle.rsl_event.specs.declared.nas.NasName.TheVariants.{Identifier, Address, Unnamed}
use Rattle.rsl_shard.specs.declared.row.Row.{Row}
use Rattle.rld_page.specs.Figures.{grouped, moment_text, share_of, width_text}
use Rattle.rld_page.specs.Html.{html_text, soft_dash}

-- how each table ends that fills its section
abbrev pub table_end : List ℕ
table_end = codes "</tbody></table></div></section>\n"

-- ---- accounts

unfoldable pub accounts_front : (number : ℕ) → List ℕ
accounts_front number =
    codes "<section class=\"most\"><div class=\"top\"><h2>Fullest accounts</h2><p class=\"soft\">"
    ++ (grouped number ++ (codes " in all</p></div>\n<div class=\"wide\">"
    ++ (codes "<table><thead><tr><th scope=\"col\">Account</th><th scope=\"col\"><span class=\"more\">Share</span></th>"
    ++ (codes "<th scope=\"col\" class=\"n\">Held</th><th scope=\"col\" class=\"n\">Places</th>"
    ++ (codes "<th scope=\"col\" class=\"n more\">Live</th><th scope=\"col\" class=\"n more\">Stale</th>"
    ++ (codes "<th scope=\"col\" class=\"n more\">Reserved</th><th scope=\"col\" class=\"n more\">Over</th>"
    ++ codes "</tr></thead><tbody>\n"))))))

-- the row of an account is an anchor, by its name
abbrev pub account_front : Row → List ℕ
account_front row =
    if nat_lt row.held row.places then codes "<tr id=\"account-" else codes "<tr class=\"full\" id=\"account-"

unfoldable pub share_cell : (held places : ℕ) → List ℕ
share_cell held places =
    codes "</td><td class=\"share\"><span class=\"bar\"><i style=\"width:"
    ++ (width_text (share_of held places) ++ codes "\"></i></span></td>")

unfoldable pub number_cell : ℕ → List ℕ
number_cell number = codes "<td class=\"n\">" ++ (grouped number ++ codes "</td>")

-- one that a narrow window has no room for
unfoldable pub more_cell : ℕ → List ℕ
more_cell number = codes "<td class=\"n more\">" ++ (grouped number ++ codes "</td>")

unfoldable pub row_cells : Row → List ℕ
row_cells row =
    share_cell row.held row.places
    ++ (number_cell row.held ++ (number_cell row.places
    ++ (more_cell row.live ++ (more_cell row.stale ++ (more_cell row.reserved ++ more_cell row.over)))))

unfoldable pub account_row : AccountLook → List ℕ
account_row account =
    account_front account.row
    ++ (html_text account.name
    ++ (codes "\"><td class=\"name\">"
    ++ (html_text account.name ++ (row_cells account.row ++ codes "</tr>\n"))))

-- the fullest accounts in their order, and how many accounts there are
unfoldable pub accounts_of : (number : ℕ) → List AccountLook → List ℕ
accounts_of number fullest =
    accounts_front number ++ (flat_map account_row fullest ++ table_end)

-- ---- how datagrams ended

unfoldable pub count_row : Cause → (count : ℕ) → List ℕ
count_row cause count =
    codes "<tr><td>" ++ (words_of cause ++ (codes "</td><td class=\"n\">" ++ (grouped count ++ codes "</td></tr>\n")))

-- none of a cause for which no datagram ended
abbrev pub row_if_any : Cause → (count : ℕ) → List ℕ
row_if_any cause count = if count == 0 then [] else count_row cause count

abbrev pub answer_row : (counts : List ℕ) → Gate → Cause → List ℕ
answer_row counts gate cause =
    if is_answer (kind_of cause) then row_if_any cause (count_in counts (at gate cause)) else []

abbrev pub other_row : (counts : List ℕ) → Gate → Cause → List ℕ
other_row counts gate cause =
    if is_answer (kind_of cause) then [] else row_if_any cause (count_in counts (at gate cause))

-- the causes of a gate: the answers, then all others, and their sum
unfoldable pub gate_table : (name counts : List ℕ) → Gate → List ℕ
gate_table name counts gate =
    codes "<table><thead><tr><th scope=\"col\">" ++ (name
    ++ (codes "</th><th scope=\"col\" class=\"n\">Datagrams</th></tr></thead><tbody>\n"
    ++ (flat_map (answer_row counts gate) (causes_at gate) ++ (flat_map (other_row counts gate) (causes_at gate)
    ++ (codes "</tbody><tfoot><tr><td>All</td><td class=\"n\">"
    ++ (grouped (total_at counts gate) ++ codes "</td></tr></tfoot></table>\n"))))))

-- the table of asks, if any came
abbrev pub asks_if_any : (counts : List ℕ) → List ℕ
asks_if_any counts = if total_at counts Ask == 0 then [] else gate_table (codes "Asks") counts Ask

unfoldable pub causes_of : (counts : List ℕ) → List ℕ
causes_of counts =
    codes "<section class=\"rest\"><div class=\"top\"><h2>Datagrams since the start</h2></div>\n<div class=\"wide\">"
    ++ (gate_table (codes "Authentication") counts Auth
    ++ (gate_table (codes "Accounting") counts Acct
    ++ (asks_if_any counts ++ codes "</div></section>\n")))

-- ---- the access servers that hold a session or a reservation

unfoldable pub servers_front : (number : ℕ) → List ℕ
servers_front number =
    codes "<section><div class=\"top\"><h2>Access servers</h2><p class=\"soft\">times are UTC, "
    ++ (grouped number ++ (codes " in all</p></div>\n<div class=\"wide\">"
    ++ (codes "<table><thead><tr><th scope=\"col\">Client</th><th scope=\"col\">Access server</th>"
    ++ (codes "<th scope=\"col\" class=\"n\">Sessions</th><th scope=\"col\" class=\"n more\">Reserved</th>"
    ++ (codes "<th scope=\"col\" class=\"n more\">Last packet</th><th scope=\"col\" class=\"n\">Silent for</th>"
    ++ codes "</tr></thead><tbody>\n")))))

unfoldable pub server_front : AccessServerLook → List ℕ
server_front server =
    codes "<tr><td>" ++ (dotted server.client
    ++ (codes "</td><td class=\"name\">" ++ (nas_word server.nas ++ codes "</td>")))

-- when one of its links was last touched, and how long before the look
unfoldable pub touch_cells : (dates : ℕ → List ℕ) → (now last : ℕ) → List ℕ
touch_cells dates now last =
    codes "<td class=\"n more\"><time>" ++ (moment_text dates last
    ++ (codes "</time></td><td class=\"n\">" ++ (grouped (now - last) ++ codes " s</td></tr>\n")))

unfoldable pub server_row : (dates : ℕ → List ℕ) → (now : ℕ) → AccessServerLook → List ℕ
server_row dates now server =
    server_front server
    ++ (number_cell server.bound ++ (more_cell server.reserved ++ touch_cells dates now server.last))

unfoldable pub left_out_words : (number : ℕ) → List ℕ
left_out_words number = codes " <b>" ++ (grouped number ++ codes " more are not shown.</b>")

-- how many are not shown, if any are not
abbrev pub more_servers : (number shown : ℕ) → List ℕ
more_servers number shown = if nat_le number shown then [] else left_out_words (number - shown)

unfoldable pub servers_end : (number shown : ℕ) → List ℕ
servers_end number shown =
    codes "</tbody></table></div>\n<p class=\"soft\">An access server stands here only "
    ++ (codes "while it holds a session or a reservation. Its last packet is the last "
    ++ (codes "one of these." ++ (more_servers number shown ++ codes "</p></section>\n")))

unfoldable pub servers_table : (dates : ℕ → List ℕ) → (now number : ℕ) → List AccessServerLook → List ℕ
servers_table dates now number servers =
    servers_front number ++ (flat_map (server_row dates now) servers ++ servers_end number (length servers))

abbrev pub servers_of : (dates : ℕ → List ℕ) → Look → List ℕ
servers_of dates look = servers_table dates look.now look.access_servers.number look.access_servers.first.items

-- ---- what was refused lately

abbrev pub name_or_dash : Option (List ℕ) → List ℕ
name_or_dash None = soft_dash
name_or_dash (Some name) = word name

-- sixteen octets as an address of IPv6
abbrev pub ipv6_or_word : List ℕ → List ℕ
ipv6_or_word address = if length address == 16 then ipv6_text (segments_of address) else word address

-- four octets as an address of IPv4
abbrev pub address_text : List ℕ → List ℕ
address_text address = if length address == 4 then dotted address else ipv6_or_word address

-- what an access server calls itself
abbrev pub nas_text : NasName → List ℕ
nas_text (Identifier name) = word name
nas_text (Address address) = address_text address
nas_text Unnamed = soft_dash

-- the client that a peer stands for; of a peer that stands for none, its own address
abbrev pub client_text : (client : Option ℕ) → Source → (peer : IpAddr) → List ℕ
client_text (Some client) source peer = dotted source.address
client_text None source peer = ip_text peer

unfoldable pub refusal_front : (dates : ℕ → List ℕ) → Refusal → List ℕ
refusal_front dates refusal =
    codes "<tr><td><time>" ++ (moment_text dates refusal.moment
    ++ (codes "</time></td><td class=\"name\">" ++ (name_or_dash refusal.name
    ++ (codes "</td><td class=\"name more\">" ++ name_or_dash refusal.station))))

unfoldable pub refusal_end : Refusal → List ℕ
refusal_end refusal =
    codes "</td><td>" ++ (words_of refusal.fate.cause
    ++ (codes "</td><td>" ++ (client_text refusal.client refusal.source refusal.peer
    ++ (codes "</td><td class=\"name\">" ++ (nas_text refusal.nas ++ codes "</td></tr>\n")))))

abbrev pub refusal_row : (dates : ℕ → List ℕ) → Refusal → List ℕ
refusal_row dates refusal = refusal_front dates refusal ++ refusal_end refusal

-- the last one first
abbrev pub refusal_rows : (dates : ℕ → List ℕ) → List Refusal → List ℕ
refusal_rows dates [] = []
refusal_rows dates (refusal ∷ refusals) = refusal_rows dates refusals ++ refusal_row dates refusal

unfoldable pub refused_table : (dates : ℕ → List ℕ) → List Refusal → List ℕ
refused_table dates refusals =
    codes "<div class=\"wide\"><table class=\"lately\"><thead><tr><th scope=\"col\">Time</th><th scope=\"col\">Account</th>"
    ++ (codes "<th scope=\"col\" class=\"more\">Station</th><th scope=\"col\">Cause</th>"
    ++ (codes "<th scope=\"col\">Client</th><th scope=\"col\">Access server</th></tr></thead><tbody>\n"
    ++ (refusal_rows dates refusals ++ table_end)))

abbrev pub refused_if_any : (dates : ℕ → List ℕ) → List Refusal → List ℕ
refused_if_any dates refusals =
    if length refusals == 0 then codes "<p class=\"soft\">Nothing was refused.</p></section>\n"
    else refused_table dates refusals

unfoldable pub refused_of : (dates : ℕ → List ℕ) → List Refusal → List ℕ
refused_of dates refusals =
    codes "<section><div class=\"top\"><h2>Refused lately</h2><p class=\"soft\">times are UTC</p></div>\n"
    ++ refused_if_any dates refusals

-- ---- the sockets

unfoldable pub socket_row : SocketLook → List ℕ
socket_row socket =
    codes "<tr><td>" ++ (decimal socket.port
    ++ (codes "</td><td class=\"n\">" ++ (grouped socket.waiting
    ++ (codes "</td><td class=\"n\">" ++ (grouped socket.dropped ++ codes "</td></tr>\n")))))

unfoldable pub sockets_table : List SocketLook → List ℕ
sockets_table sockets =
    codes "<section><div class=\"top\"><h2>Sockets</h2></div>\n<div class=\"wide\"><table><thead><tr>"
    ++ (codes "<th scope=\"col\">UDP port</th><th scope=\"col\" class=\"n\">Octets waiting</th>"
    ++ (codes "<th scope=\"col\" class=\"n\">Dropped, no room</th></tr></thead><tbody>\n"
    ++ (flat_map socket_row sockets ++ table_end)))

-- no table where the system says nothing of any
abbrev pub sockets_of : List SocketLook → List ℕ
sockets_of sockets = if length sockets == 0 then [] else sockets_table sockets
