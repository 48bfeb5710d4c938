-- The state of the server, and the numbers that are looked at first.
use Rattle.std.specs.Prelude.{ℕ, ◌==◌, List, [], ◌++◌, codes, if◌then◌else◌}
use Rattle.std.specs.Fmt.{decimal}
use Rattle.rld_look.specs.History.{latest_of, span_of}
use Rattle.rld_look.specs.Totals.{plus}
use Rattle.rld_look.specs.declared.look.Look.{Look}
use Rattle.rld_look.specs.declared.look.Minute.{Minute}
use Rattle.rld_look.specs.declared.look.Recording.{Recording}
use Rattle.rld_look.specs.declared.look.Recording.TheVariants.{Recorded, Failing}
use Rattle.rld_page.specs.Figures.{date_text, grouped, share_of, tenths_of, tenths_text, width_text}
use Rattle.rld_page.specs.Html.{middle_dot}

-- ---- the state

abbrev pub recording_mark : Recording → List ℕ
recording_mark Recorded = codes "<p class=\"state good\">recording</p>"
recording_mark Failing =
    codes "<p class=\"state bad\" role=\"alert\">not recording, and so not answering: "
    ++ codes "the disk is full or fails, or memory is refused</p>"

unfoldable pub behind_mark : (behind : ℕ) → List ℕ
behind_mark behind =
    codes "<p class=\"state bad\" role=\"alert\">clock behind by "
    ++ (grouped behind ++ codes " s: no deadline passes until it is there</p>")

-- by how many seconds the clock is behind the books, if it is
abbrev pub clock_mark : (behind : ℕ) → List ℕ
clock_mark behind = if behind == 0 then [] else behind_mark behind

unfoldable pub since_text : (dates : ℕ → List ℕ) → (start : ℕ) → List ℕ
since_text dates start = codes "<p class=\"since\">since <time>" ++ (date_text dates start ++ codes "</time> ")

-- what the server writes
unfoldable pub written_text : (generation moves : ℕ) → List ℕ
written_text generation moves =
    middle_dot
    ++ (codes " generation " ++ (decimal generation
    ++ (codes ", " ++ (grouped moves ++ codes " moves</p></header>\n"))))

unfoldable pub state_of : (dates : ℕ → List ℕ) → Look → List ℕ
state_of dates look =
    codes "<header><h1>radlimitd</h1>"
    ++ (recording_mark look.recording
    ++ (clock_mark look.clock_behind
    ++ (since_text dates look.start ++ written_text look.generation look.moves)))

-- ---- the numbers

unfoldable pub places_text : (held places : ℕ) → List ℕ
places_text held places =
    codes "<div><dt>Places held</dt><dd>" ++ (grouped held
    ++ (codes " <small>of " ++ (grouped places
    ++ (codes "</small></dd><span class=\"bar\"><i style=\"width:"
    ++ (width_text (share_of held places) ++ codes "\"></i></span></div>\n")))))

-- how many came a second, of those that came in a minute, with words for the time of it
unfoldable pub rate_text : (name : List ℕ) → (a_minute : ℕ) → (span : List ℕ) → List ℕ
rate_text name a_minute span =
    codes "<div><dt>" ++ (name
    ++ (codes "</dt><dd>" ++ (tenths_text (tenths_of a_minute)
    ++ (codes " <small>a second, " ++ (span ++ codes "</small></dd></div>\n")))))

abbrev pub rejects_in : Minute → ℕ
rejects_in minute = plus minute.limit_rejects minute.rejects

unfoldable pub rates_text : Minute → (span : List ℕ) → List ℕ
rates_text minute span =
    rate_text (codes "Logins") minute.accepts span
    ++ (rate_text (codes "Rejects") (rejects_in minute) span
    ++ rate_text (codes "Accounting") minute.accounting span)

-- what the archive has
unfoldable pub archive_row : (logs octets : ℕ) → List ℕ
archive_row logs octets =
    codes "<p class=\"soft\">Archive: " ++ (grouped logs
    ++ (codes " logs, " ++ (grouped octets ++ codes " octets</p>")))

unfoldable pub numbers_of : Look → List ℕ
numbers_of look =
    codes "<section class=\"numbers\" aria-label=\"Summary\"><dl>\n"
    ++ (places_text look.totals.held look.totals.places
    ++ (rates_text (latest_of look) (span_of look)
    ++ (codes "</dl>\n" ++ (archive_row look.archive.logs look.archive.octets ++ codes "</section>\n"))))
