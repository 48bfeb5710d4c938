-- The metrics of a running server.
use Rattle.std.specs.Prelude.{ℕ, ◌+◌, ◌-◌, ◌^◌, List, [], ◌∷◌, ◌++◌, codes, sum, take}
use Rattle.std.specs.Fmt.{decimal}
use Rattle.std.specs.List.{flat_map, range_with_len}
use Rattle.rld_counts.specs.Counts.{count_in}
use Rattle.rld_counts.specs.Fates.{at, causes_at, name_of, word_of}
use Rattle.rld_counts.specs.Histogram.{Times}
use Rattle.rld_counts.specs.Tally.{kept}
use Rattle.rld_counts.specs.declared.gate.Gate.{Gate}
use Rattle.rld_counts.specs.declared.gate.Gate.TheVariants.{Auth, Acct, Ask}
use Rattle.rld_look.specs.AccessServers.{nas_word}
use Rattle.rld_look.specs.Totals.{plus}
use Rattle.rld_look.specs.declared.build.Build.{Build}
use Rattle.rld_look.specs.declared.look.ClientLook.{ClientLook}
use Rattle.rld_look.specs.declared.look.ArchiveLook.{ArchiveLook}
use Rattle.rld_look.specs.declared.look.Look.{Look}
use Rattle.rld_look.specs.declared.look.Recording.{Recording}
use Rattle.rld_look.specs.declared.look.Recording.TheVariants.{Recorded, Failing}
use Rattle.rld_look.specs.declared.look.SocketLook.{SocketLook}
use Rattle.rld_look.specs.declared.servers.AccessServerLook.{AccessServerLook}
use Rattle.rld_look.specs.declared.totals.Totals.{Totals}
use Rattle.rld_values.specs.Values.{dotted}
use Rattle.rsl_event.specs.declared.nas.NasName.{NasName}
use Rattle.rld_text.specs.Build.{proof_word}
use Rattle.rld_text.specs.Text.{escaped_octet, head_of, label, seconds}

-- ---- how the datagrams ended

unfoldable pub datagrams_head : List ℕ
datagrams_head =
    head_of (codes "radlimitd_datagrams_total") (codes "counter")
    (codes "Datagrams taken, by their port and by how they ended.")

unfoldable pub clients_head : List ℕ
clients_head =
    head_of (codes "radlimitd_client_datagrams_total") (codes "counter")
    (codes "Datagrams taken of a client, by their port and by how they ended.")

-- the start of a line: of all datagrams, and of those of a client
abbrev pub all_front : List ℕ
all_front = codes "radlimitd_datagrams_total{"

unfoldable pub client_front : (address : List ℕ) → List ℕ
client_front address = codes "radlimitd_client_datagrams_total{client=\"" ++ (dotted address ++ codes "\",")

-- `number` datagrams of the port `port` ended as `end`
unfoldable pub datagrams_line : (front port end : List ℕ) → (number : ℕ) → List ℕ
datagrams_line front port end number =
    front ++ (label (codes "port") port
    ++ (codes "," ++ (label (codes "end") end ++ (codes "} " ++ (decimal number ++ codes "\n")))))

-- the lines of a gate, and of all
abbrev pub lines_of : (front counts : List ℕ) → Gate → List ℕ
lines_of front counts gate =
    flat_map (λ cause. datagrams_line front (word_of gate) (name_of cause) (count_in counts (at gate cause)))
    (causes_at gate)

unfoldable pub ends_lines : (front counts : List ℕ) → List ℕ
ends_lines front counts =
    lines_of front counts Auth ++ (lines_of front counts Acct ++ lines_of front counts Ask)

abbrev pub client_lines : ClientLook → List ℕ
client_lines client = ends_lines (client_front client.address) client.counts

-- how all datagrams ended, and those of each client
unfoldable pub ends_text : Look → List ℕ
ends_text look =
    datagrams_head ++ (ends_lines all_front look.counts ++ (clients_head ++ flat_map client_lines look.clients.items))

-- ---- how long the answers took

unfoldable pub times_head : List ℕ
times_head =
    head_of (codes "radlimitd_answer_seconds") (codes "histogram")
    (codes "From when a datagram was taken to when its answer was sent, by its port.")

-- `number` answers of the port `port` took at most `bound` seconds
unfoldable pub bucket_line : (port bound : List ℕ) → (number : ℕ) → List ℕ
bucket_line port bound number =
    codes "radlimitd_answer_seconds_bucket{" ++ (label (codes "port") port
    ++ (codes ",le=\"" ++ (bound ++ (codes "\"} " ++ (decimal number ++ codes "\n")))))

-- the answers of a port in total: the sum of their times, and their number
unfoldable pub times_end : (port : List ℕ) → (micros number : ℕ) → List ℕ
times_end port micros number =
    codes "radlimitd_answer_seconds_sum{" ++ (label (codes "port") port
    ++ (codes "} " ++ (seconds micros
    ++ (codes "\nradlimitd_answer_seconds_count{" ++ (label (codes "port") port
    ++ (codes "} " ++ (decimal number ++ codes "\n")))))))

-- the number of times in a bucket or in one before it
abbrev pub up_to : Times → (bucket : ℕ) → ℕ
up_to times bucket = kept (sum (take (bucket + 1) times.buckets))

-- the lines of the first `size` buckets
unfoldable pub bucket_lines : (port : List ℕ) → Times → (size : ℕ) → List ℕ
bucket_lines port times size =
    flat_map (λ bucket. bucket_line port (seconds (2 ^ bucket)) (up_to times bucket)) (range_with_len 0 size)

unfoldable pub times_lines : (port : List ℕ) → Times → List ℕ
times_lines port times =
    bucket_lines port times 24
    ++ (bucket_line port (codes "+Inf") (kept (sum times.buckets))
    ++ times_end port times.micros (kept (sum times.buckets)))

-- the histograms of both ports, and of asks
unfoldable pub times_text : Look → List ℕ
times_text look =
    times_head
    ++ (times_lines (codes "auth") look.auth_times
    ++ (times_lines (codes "acct") look.acct_times ++ times_lines (codes "ask_http") look.ask_times))

-- ---- numbers of the whole server

-- a metric of one number: a gauge may go up and down, a counter goes up
unfoldable pub sample : (kind name help : List ℕ) → (number : ℕ) → List ℕ
sample kind name help number =
    head_of name kind help ++ (name ++ (codes " " ++ (decimal number ++ codes "\n")))

abbrev pub gauge : (name help : List ℕ) → (number : ℕ) → List ℕ
gauge = sample (codes "gauge")

-- what all accounts hold, and the number of those with no free place
unfoldable pub holdings : Totals → List ℕ
holdings totals =
    gauge (codes "radlimitd_places") (codes "Places of all accounts.") totals.places
    ++ (gauge (codes "radlimitd_places_held") (codes "Places that are held.") totals.held
    ++ (gauge (codes "radlimitd_accounts") (codes "Accounts that there are.") totals.accounts
    ++ gauge (codes "radlimitd_accounts_full") (codes "Accounts that have no free place.") totals.full))

-- so many reservations or sessions are in this state
unfoldable pub state_line : (state : List ℕ) → (number : ℕ) → List ℕ
state_line state number =
    codes "radlimitd_sessions{" ++ (label (codes "state") state ++ (codes "} " ++ (decimal number ++ codes "\n")))

-- what holds a place, by its state, and what found none
unfoldable pub states_text : Totals → List ℕ
states_text totals =
    head_of (codes "radlimitd_sessions") (codes "gauge")
    (codes "What holds a place: reservations, and sessions that are live or stale.")
    ++ (state_line (codes "reserved") totals.reserved
    ++ (state_line (codes "live") totals.live
    ++ (state_line (codes "stale") totals.stale
    ++ sample (codes "counter") (codes "radlimitd_over_total")
    (codes "Starts and Interim-Updates so far of sessions that found no place, and run all the same.") totals.over)))

-- what is held
unfoldable pub held_text : Totals → List ℕ
held_text totals = holdings totals ++ states_text totals

-- 1 if batches are being recorded, else 0
abbrev pub recording_of : Recording → ℕ
recording_of Recorded = 1
recording_of Failing = 0

-- the generation, the second of the start, and whether batches are recorded
unfoldable pub writing : (generation start recording : ℕ) → List ℕ
writing generation start recording =
    gauge (codes "radlimitd_generation") (codes "Number of the generation.") generation
    ++ (gauge (codes "radlimitd_start_time_seconds") (codes "When the server started, in seconds since 1970.") start
    ++ gauge (codes "radlimitd_recording") (codes "1 where batches are being recorded, else 0.") recording)

-- `number`, and with it the octets that wait at the sockets of a list
abbrev pub waiting_after : ℕ → List SocketLook → ℕ
waiting_after number [] = number
waiting_after number (socket ∷ sockets) = waiting_after (plus number socket.waiting) sockets

-- `number`, and with it the datagrams that were dropped at the sockets of a list
abbrev pub dropped_after : ℕ → List SocketLook → ℕ
dropped_after number [] = number
dropped_after number (socket ∷ sockets) = dropped_after (plus number socket.dropped) sockets

-- the octets that wait at the sockets, and the datagrams dropped there
unfoldable pub at_sockets : (waiting dropped : ℕ) → List ℕ
at_sockets waiting dropped =
    gauge (codes "radlimitd_sockets_waiting_octets") (codes "Octets that wait in the room of the UDP sockets.") waiting
    ++ sample (codes "counter") (codes "radlimitd_sockets_dropped_total")
    (codes "Datagrams that the system dropped at the UDP sockets for want of room.") dropped

-- the clock, and what the archive has
unfoldable pub state_gauges : (clock_behind : ℕ) → ArchiveLook → List ℕ
state_gauges clock_behind archive =
    gauge (codes "radlimitd_clock_behind_seconds") (codes "Seconds by which the clock is behind the books: no deadline passes until it is there.") clock_behind
    ++ (gauge (codes "radlimitd_archive_logs") (codes "Logs that the archive has.") archive.logs
    ++ gauge (codes "radlimitd_archive_octets") (codes "Octets of the logs that the archive has.") archive.octets)

unfoldable pub numbers_text : Look → List ℕ
numbers_text look =
    held_text look.totals
    ++ (writing look.generation look.start (recording_of look.recording)
    ++ (state_gauges look.clock_behind look.archive
    ++ at_sockets (waiting_after 0 look.sockets.items) (dropped_after 0 look.sockets.items)))

-- ---- the build of the program

unfoldable pub build_head : List ℕ
build_head =
    head_of (codes "radlimitd_build_info") (codes "gauge")
    (codes "1, with the version that runs, and the commit that it is proved at, or no.")

unfoldable pub build_sample : Build → List ℕ
build_sample build =
    codes "radlimitd_build_info{" ++ (label (codes "version") build.version.now
    ++ (codes ",proved=\"" ++ (proof_word build.proof ++ codes "\"} 1\n")))

unfoldable pub build_text : Build → List ℕ
build_text build = build_head ++ build_sample build

-- ---- the access servers that hold a session or a reservation

unfoldable pub sessions_head : List ℕ
sessions_head =
    head_of (codes "radlimitd_access_server_sessions") (codes "gauge")
    (codes "Sessions and reservations that an access server holds.")

unfoldable pub reserved_head : List ℕ
reserved_head =
    head_of (codes "radlimitd_access_server_reserved") (codes "gauge")
    (codes "Reservations among these: accepts whose session has not begun.")

unfoldable pub silent_head : List ℕ
silent_head =
    head_of (codes "radlimitd_access_server_silent_seconds") (codes "gauge")
    (codes "Seconds since the last packet about a session that an access server holds.")

-- its name as the list of the sessions has it, as the value of a label
abbrev pub nas_value : NasName → List ℕ
nas_value nas = flat_map escaped_octet (nas_word nas)

unfoldable pub server_line : (front : List ℕ) → AccessServerLook → (number : ℕ) → List ℕ
server_line front server number =
    front ++ (dotted server.client ++ (codes "\",nas=\"" ++ (nas_value server.nas
    ++ (codes "\"} " ++ (decimal number ++ codes "\n")))))

abbrev pub sessions_line : AccessServerLook → List ℕ
sessions_line server =
    server_line (codes "radlimitd_access_server_sessions{client=\"") server (plus server.reserved server.bound)

abbrev pub reserved_line : AccessServerLook → List ℕ
reserved_line server =
    server_line (codes "radlimitd_access_server_reserved{client=\"") server server.reserved

abbrev pub silent_line : (now : ℕ) → AccessServerLook → List ℕ
silent_line now server =
    server_line (codes "radlimitd_access_server_silent_seconds{client=\"") server (now - server.last)

abbrev pub servers_number : ℕ → List ℕ
servers_number number =
    gauge (codes "radlimitd_access_servers")
    (codes "Access servers that hold a session or a reservation. Of the first 256 there is more.") number

unfoldable pub servers_all : (now number : ℕ) → List AccessServerLook → List ℕ
servers_all now number servers =
    servers_number number ++ (sessions_head ++ (flat_map sessions_line servers
    ++ (reserved_head ++ (flat_map reserved_line servers
    ++ (silent_head ++ flat_map (silent_line now) servers)))))

abbrev pub servers_text : Look → List ℕ
servers_text look = servers_all look.now look.access_servers.number look.access_servers.first.items

-- all metrics
unfoldable pub metrics_text : Look → List ℕ
metrics_text look =
    build_text look.build ++ (ends_text look ++ (times_text look ++ (numbers_text look ++ servers_text look)))
