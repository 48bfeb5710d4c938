-- What a request asks for.
use Rattle.std.specs.Prelude.{ℕ, Bool, true, false, ◌||◌, List, codes, Option, Some, None, bytes_eq}
use Rattle.std.specs.declared.net.socket_addr.SocketAddrV4.{SocketAddrV4}
use Rattle.http.specs.declared.request.Request.{Request}
use Rattle.http.specs.Request.{head_of}
use Rattle.http_uri.specs.Uri.{uri_path}
use Rattle.rld_web.specs.Path.{path_of}
use Rattle.rld_web.specs.Place.{host_of, is_asked_for}
use Rattle.rld_web.specs.declared.path.Path.{Path}
use Rattle.rld_web.specs.declared.path.Path.TheVariants as Of
use Rattle.rld_web.specs.declared.wanted.Wanted.{Wanted}
use Rattle.rld_web.specs.declared.wanted.Wanted.TheVariants as Is

-- whether a method only reads
abbrev pub is_reading : (method : List ℕ) → Bool
is_reading method = bytes_eq method (codes "GET") || bytes_eq method (codes "HEAD")

-- under another name than the server's nothing is looked at, and a method that does more than read has no path
abbrev pub wanted_by : (asked reading : Bool) → Option Path → Wanted
wanted_by false reading path = Is.Elsewhere
wanted_by true false path = Is.Change
wanted_by true true None = Is.Unknown
wanted_by true true (Some path) = Is.Of path

abbrev pub wanted_of : SocketAddrV4 → Request (List ℕ) → Wanted
wanted_of place request =
    wanted_by (is_asked_for place (host_of (head_of request))) (is_reading (head_of request).method)
    (path_of (uri_path (head_of request).uri))

-- whether a look at the server is needed for it, which walks all books
abbrev pub needs_look : Wanted → Bool
needs_look Is.Elsewhere = false
needs_look Is.Change = false
needs_look Is.Unknown = false
needs_look (Is.Of Of.Page) = true
needs_look (Is.Of Of.Metrics) = true
needs_look (Is.Of Of.Accounts) = false
needs_look (Is.Of Of.Health) = false

-- whether a look at the accounts is
abbrev pub needs_accounts : Wanted → Bool
needs_accounts Is.Elsewhere = false
needs_accounts Is.Change = false
needs_accounts Is.Unknown = false
needs_accounts (Is.Of Of.Page) = false
needs_accounts (Is.Of Of.Metrics) = false
needs_accounts (Is.Of Of.Accounts) = true
needs_accounts (Is.Of Of.Health) = false
