-- The paths of a server, and their media types.
use Rattle.std.specs.Prelude.{ℕ, List, codes, Option, Some, None, bytes_eq, if◌then◌else◌}
use Rattle.rld_web.specs.declared.path.Path.{Path}
use Rattle.rld_web.specs.declared.path.Path.TheVariants.{Page, Metrics, Accounts, Health}

abbrev pub path_of : (path : List ℕ) → Option Path
path_of path =
    if bytes_eq path (codes "/") then Some Page
    else if bytes_eq path (codes "/metrics") then Some Metrics
    else if bytes_eq path (codes "/accounts.json") then Some Accounts
    else if bytes_eq path (codes "/health") then Some Health
    else None

-- the media type of plain text
abbrev pub plain : List ℕ
plain = codes "text/plain; charset=utf-8"

abbrev pub media_type_of : Path → List ℕ
media_type_of Page = codes "text/html; charset=utf-8"
media_type_of Metrics = codes "text/plain; version=0.0.4; charset=utf-8"
media_type_of Accounts = codes "application/json"
media_type_of Health = plain
