-- What a running server says of itself: who it is and whether it records, numbers, a line each, what has happened
-- lately, and that it is all; or all of that but the times for people as one object of JSON.
use Rattle.std.specs.Prelude.{◌≡◌, ℕ, ◌==◌, List, [], ◌++◌, codes, if◌then◌else◌}
use Rattle.std.specs.Fmt.{decimal}
use Rattle.std.specs.List.{flat_map}
use Rattle.rld_counts.specs.Counts.{count_in}
use Rattle.rld_counts.specs.Fates.{at, causes_at, name_of, word_of}
use Rattle.rld_counts.specs.declared.gate.Gate.{Gate}
use Rattle.rld_counts.specs.declared.gate.Gate.TheVariants.{Auth, Acct, Ask}
use Rattle.rld_look.specs.declared.build.Build.{Build}
use Rattle.rld_look.specs.declared.look.ArchiveLook.{ArchiveLook}
use Rattle.rld_look.specs.declared.look.Look.{Look}
use Rattle.rld_look.specs.declared.look.Recording.{Recording}
use Rattle.rld_look.specs.declared.look.Recording.TheVariants.{Recorded, Failing}
use Rattle.rld_look.specs.declared.totals.Totals.{Totals}
use Rattle.rld_values.specs.Dates.{AreDates}
use Rattle.rld_text.specs.Build.{build_line, proof_word}
use Rattle.rld_text.specs.Json.{json_string, member_front, number_member}
use Rattle.rld_text.specs.Metrics.{dropped_after, waiting_after}
use Rattle.rld_text.specs.Recent.{recent_lines, start_line}
use Rattle.rld_text.specs.Words.{number_line}

abbrev pub recording_line : Recording → List ℕ
recording_line Recorded = codes "recording\n"
recording_line Failing = codes "NOT RECORDING: the disk is full or fails, or memory is refused\n"

unfoldable pub behind_line : (behind : ℕ) → List ℕ
behind_line behind =
    codes "CLOCK BEHIND by " ++ (decimal behind ++ codes " s: no deadline passes until it is there\n")

-- by how many seconds the clock is behind the books, if it is
abbrev pub clock_line : (behind : ℕ) → List ℕ
clock_line behind = if behind == 0 then [] else behind_line behind

abbrev pub totals_lines : Totals → List ℕ
totals_lines totals =
    number_line (codes "accounts") totals.accounts
    ++ number_line (codes "places") totals.places
    ++ number_line (codes "held") totals.held
    ++ number_line (codes "reserved") totals.reserved
    ++ number_line (codes "live") totals.live
    ++ number_line (codes "stale") totals.stale
    ++ number_line (codes "over") totals.over

-- the start, the generation, what all accounts hold, the moves of the generation, and the memory of
-- the books
abbrev pub number_lines : Look → List ℕ
number_lines look =
    number_line (codes "since") look.start
    ++ number_line (codes "generation") look.generation
    ++ totals_lines look.totals
    ++ number_line (codes "moves") look.moves
    ++ number_line (codes "memory") look.memory

-- who it is, since when, whether it records, whether its clock is behind, the numbers, what has happened lately, and that it is all
unfoldable pub status_of : (dates : ℕ → List ℕ) → Look → List ℕ
status_of dates look =
    build_line look.build ++ (start_line dates look.start look.now
    ++ (recording_line look.recording ++ (clock_line look.clock_behind
    ++ (number_lines look ++ (recent_lines look ++ codes "ok\n")))))

-- the status, with the dates of all seconds
abbrev pub IsStatus : Look → (text : List ℕ) → Type 0
IsStatus look text = (dates : ℕ → List ℕ) → AreDates dates → text ≡ status_of dates look

-- ---- the status as an object

abbrev pub recording_word : Recording → List ℕ
recording_word Recorded = codes "true"
recording_word Failing = codes "false"

-- the build, the start and the second of the look, and whether it records
unfoldable pub who_members : Build → (start now : ℕ) → Recording → List ℕ
who_members build start now recording =
    codes "{\"version\":" ++ (json_string build.version.now
    ++ (codes ",\"proved\":\"" ++ (proof_word build.proof
    ++ (codes "\"" ++ (number_member (codes "start") start
    ++ (number_member (codes "now") now
    ++ (member_front (codes "recording") ++ recording_word recording)))))))

unfoldable pub totals_members : Totals → List ℕ
totals_members totals =
    number_member (codes "accounts") totals.accounts
    ++ (number_member (codes "places") totals.places
    ++ (number_member (codes "held") totals.held
    ++ (number_member (codes "reserved") totals.reserved
    ++ (number_member (codes "live") totals.live
    ++ (number_member (codes "stale") totals.stale ++ number_member (codes "over") totals.over)))))

-- the numbers of the lines, and the number of accounts with no free place
unfoldable pub numbers_members : Look → List ℕ
numbers_members look =
    number_member (codes "generation") look.generation
    ++ (totals_members look.totals
    ++ (number_member (codes "full") look.totals.full
    ++ (number_member (codes "moves") look.moves ++ number_member (codes "memory") look.memory)))

-- the number of datagrams of a port that ended in this way
unfoldable pub end_member : (port end : List ℕ) → (number : ℕ) → List ℕ
end_member port end number = codes ",\"" ++ (port ++ (codes "_" ++ (end ++ (codes "\":" ++ decimal number))))

abbrev pub gate_members : (counts : List ℕ) → Gate → List ℕ
gate_members counts gate =
    flat_map (λ cause. end_member (word_of gate) (name_of cause) (count_in counts (at gate cause))) (causes_at gate)

unfoldable pub ends_members : (counts : List ℕ) → List ℕ
ends_members counts = gate_members counts Auth ++ (gate_members counts Acct ++ gate_members counts Ask)

-- the octets that wait at the sockets, and the datagrams dropped there
unfoldable pub socket_members : (waiting dropped : ℕ) → List ℕ
socket_members waiting dropped =
    number_member (codes "sockets_waiting_octets") waiting ++ number_member (codes "sockets_dropped") dropped

-- by how many seconds the clock is behind, and what the archive has
unfoldable pub state_members : (clock_behind : ℕ) → ArchiveLook → List ℕ
state_members clock_behind archive =
    number_member (codes "clock_behind") clock_behind
    ++ (number_member (codes "archive_logs") archive.logs ++ number_member (codes "archive_octets") archive.octets)

unfoldable pub status_object : Look → List ℕ
status_object look =
    who_members look.build look.start look.now look.recording
    ++ (numbers_members look
    ++ (state_members look.clock_behind look.archive
    ++ (ends_members look.counts
    ++ (socket_members (waiting_after 0 look.sockets.items) (dropped_after 0 look.sockets.items) ++ codes "}\nok\n"))))
