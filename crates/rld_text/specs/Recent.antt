-- The part of a status that is for people alone: the start of the server, and what has happened
-- recently, in lines of at most 80 columns, except for long names and for rates of 10 a second and more.
use Rattle.std.specs.Prelude.{ℕ, ◌-◌, ◌/◌, ◌%◌, ◌==◌, nat_lt, Bool, ◌&&◌, List, [], ◌∷◌, ◌++◌, codes, length, if◌then◌else◌}
use Rattle.std.specs.Fmt.{decimal}
use Rattle.rld_counts.specs.Counts.{count_in, total_at}
use Rattle.rld_counts.specs.Fates.{at, causes_at, name_of}
use Rattle.rld_counts.specs.declared.cause.Cause.{Cause}
use Rattle.rld_counts.specs.declared.gate.Gate.{Gate}
use Rattle.rld_counts.specs.declared.gate.Gate.TheVariants.{Auth, Acct, Ask}
use Rattle.rld_look.specs.History.{latest_of, span_of}
use Rattle.rld_look.specs.Totals.{plus}
use Rattle.rld_look.specs.declared.look.AccountLook.{AccountLook}
use Rattle.rld_look.specs.declared.look.Look.{Look}
use Rattle.rld_look.specs.declared.look.Minute.{Minute}
use Rattle.rld_look.specs.declared.look.SocketLook.{SocketLook}
use Rattle.rld_values.specs.Dates.{age, date_or_number, http_date}
use Rattle.rld_values.specs.Values.{word}
use Rattle.rld_text.specs.Metrics.{dropped_after, waiting_after}

unfoldable pub start_line : (dates : ℕ → List ℕ) → (start now : ℕ) → List ℕ
start_line dates start now =
    codes "started " ++ (date_or_number (http_date dates start) start
    ++ (codes " UTC, " ++ (age (now - start) ++ codes " ago\n")))

-- ---- the latest rates, by the second

unfoldable pub rate : (count : ℕ) → List ℕ
rate count = decimal (count / 60) ++ (codes "." ++ decimal (count % 60 / 6))

abbrev pub span_front : (span : List ℕ) → List ℕ
span_front span = span ++ codes ": "

unfoldable pub minute_line : Minute → (span : List ℕ) → List ℕ
minute_line minute span =
    span_front span ++ (rate minute.accepts
    ++ (codes " accepts/s, " ++ (rate minute.limit_rejects
    ++ (codes " limit rejects/s, " ++ (rate minute.rejects
    ++ (codes " rejects/s, " ++ (rate minute.accounting ++ codes " accounting/s\n")))))))

-- ---- the ends that occurred

-- the columns of a word and its count
abbrev pub len_of : Cause → (count : ℕ) → ℕ
len_of cause count = plus (plus (length (name_of cause)) (length (decimal count))) 3

unfoldable pub count_words : Cause → (count : ℕ) → List ℕ
count_words cause count = codes "  " ++ (name_of cause ++ (codes " " ++ decimal count))

-- on this line if it ends at this column, else on a new one
abbrev pub break_before : (last : ℕ) → List ℕ
break_before last = if nat_lt 80 last then codes "\n    " else []

abbrev pub column_after : (column len : ℕ) → ℕ
column_after column len = if nat_lt 80 (plus column len) then plus 4 len else plus column len

-- the text of a cause, and the column after it: nothing for one that did not occur
abbrev pub count_at : (column : ℕ) → Cause → (count : ℕ) → List ℕ
count_at column cause count =
    if count == 0 then [] else break_before (plus column (len_of cause count)) ++ count_words cause count

abbrev pub column_at : (column : ℕ) → Cause → (count : ℕ) → ℕ
column_at column cause count = if count == 0 then column else column_after column (len_of cause count)

abbrev pub counts_from : (column : ℕ) → (counts : List ℕ) → Gate → List Cause → List ℕ
counts_from column counts gate [] = []
counts_from column counts gate (cause ∷ causes) =
    count_at column cause (count_in counts (at gate cause))
    ++ counts_from (column_at column cause (count_in counts (at gate cause))) counts gate causes

-- what came to a gate, after its word
unfoldable pub gate_line : (front counts : List ℕ) → Gate → List ℕ
gate_line front counts gate = front ++ (counts_from (length front) counts gate (causes_at gate) ++ codes "\n")

-- the line of asks, if any came
abbrev pub asks_if_any : (counts : List ℕ) → List ℕ
asks_if_any counts = if total_at counts Ask == 0 then [] else gate_line (codes "ask_http:") counts Ask

-- ---- the fullest accounts, and the sockets

abbrev pub is_shown : AccountLook → Bool
is_shown account = nat_lt 0 account.row.held && nat_lt 0 account.row.places

unfoldable pub full_line : AccountLook → List ℕ
full_line account =
    codes "full: " ++ (decimal account.row.held
    ++ (codes "/" ++ (decimal account.row.places ++ (codes " " ++ (word account.name ++ codes "\n")))))

-- the first accounts that have a place and hold one, `most` at most
abbrev pub full_lines : (most : ℕ) → List AccountLook → List ℕ
full_lines most [] = []
full_lines most (account ∷ accounts) =
    if nat_lt 0 most && is_shown account then full_line account ++ full_lines (most - 1) accounts
    else full_lines most accounts

unfoldable pub sockets_line : (waiting dropped : ℕ) → List ℕ
sockets_line waiting dropped =
    codes "sockets: " ++ (decimal waiting
    ++ (codes " octets wait, " ++ (decimal dropped ++ codes " datagrams found no room\n")))

abbrev pub sockets_if_any : List SocketLook → List ℕ
sockets_if_any sockets =
    if length sockets == 0 then [] else sockets_line (waiting_after 0 sockets) (dropped_after 0 sockets)

unfoldable pub archive_line : (logs octets : ℕ) → List ℕ
archive_line logs octets =
    codes "archive: " ++ (decimal logs ++ (codes " logs, " ++ (decimal octets ++ codes " octets\n")))

unfoldable pub recent_lines : Look → List ℕ
recent_lines look =
    minute_line (latest_of look) (span_of look)
    ++ (gate_line (codes "auth:") look.counts Auth
    ++ (gate_line (codes "acct:") look.counts Acct
    ++ (asks_if_any look.counts
    ++ (full_lines 5 look.fullest.items
    ++ (sockets_if_any look.sockets.items ++ archive_line look.archive.logs look.archive.octets)))))
