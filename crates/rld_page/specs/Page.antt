-- The page: a document of HTML (WHATWG HTML 13.1.1) that shows a look at the server, and all of it.
use Rattle.std.specs.Prelude.{◌≡◌, ℕ, List, [], ◌++◌, codes}
use Rattle.rld_look.specs.declared.look.Look.{Look}
use Rattle.rld_look.specs.declared.look.Recording.{Recording}
use Rattle.rld_look.specs.declared.look.Recording.TheVariants.{Recorded, Failing}
use Rattle.rld_values.specs.Dates.{AreDates}
use Rattle.rld_page.specs.Chart.{charts_of}
use Rattle.rld_page.specs.Figures.{date_text, grouped}
use Rattle.rld_page.specs.Html.{middle_dot}
use Rattle.rld_page.specs.Summary.{numbers_of, state_of}
use Rattle.rld_page.specs.Tables.{accounts_of, causes_of, refused_of, servers_of, sockets_of}
use Rattle.rld_page.specs.declared.style.TheConstants.{STYLE}

-- ---- the head: its title says what is looked at first

abbrev pub warning_of : Recording → List ℕ
warning_of Recorded = []
warning_of Failing = codes "Not recording! "

unfoldable pub title_of : Recording → (held places : ℕ) → List ℕ
title_of recording held places =
    warning_of recording
    ++ (grouped held ++ (codes " of " ++ (grouped places ++ (codes " held " ++ (middle_dot ++ codes " radlimitd")))))

unfoldable pub head_of : Recording → (held places : ℕ) → List ℕ
head_of recording held places =
    codes "<!DOCTYPE html>\n<html lang=\"en\">\n<head>\n<meta charset=\"utf-8\">\n"
    ++ (codes "<meta name=\"viewport\" content=\"width=device-width, initial-scale=1\">\n"
    ++ (codes "<meta http-equiv=\"refresh\" content=\"10\">\n<title>" ++ (title_of recording held places
    ++ (codes "</title>\n<style>" ++ (STYLE.now ++ codes "</style>\n</head>\n<body>\n")))))

-- ---- the foot

unfoldable pub foot_of : (dates : ℕ → List ℕ) → (now : ℕ) → List ℕ
foot_of dates now =
    codes "<footer>As of <time>" ++ (date_text dates now
    ++ (codes "</time>, loaded again each ten seconds. For programs: <a href=\"metrics\">/metrics</a>, "
    ++ (codes "<a href=\"accounts.json\">/accounts.json</a>, <a href=\"health\">/health</a></footer>\n"
    ++ codes "</body>\n</html>\n")))

-- ---- the whole

unfoldable pub main_of : (dates : ℕ → List ℕ) → Look → List ℕ
main_of dates look =
    codes "<main>\n" ++ (numbers_of look
    ++ (charts_of look.minutes.items
    ++ (accounts_of look.totals.accounts look.fullest.items
    ++ (causes_of look.counts
    ++ (servers_of dates look
    ++ (refused_of dates look.refusals.items ++ (sockets_of look.sockets.items ++ codes "</main>\n")))))))

unfoldable pub page_of : (dates : ℕ → List ℕ) → Look → List ℕ
page_of dates look =
    head_of look.recording look.totals.held look.totals.places
    ++ (state_of dates look ++ (main_of dates look ++ foot_of dates look.now))

-- `dates` are those of all seconds
abbrev pub IsPage : Look → (text : List ℕ) → Type 0
IsPage look text = (dates : ℕ → List ℕ) → AreDates dates → text ≡ page_of dates look
