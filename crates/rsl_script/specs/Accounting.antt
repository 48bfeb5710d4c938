-- The Accounting-Request of a line `start`, `interim`, `stop`, `on` or `off`: its words after the
-- moment are CLIENT NAS, and then for `on` and `off` the optional word delay=N. For `start`,
-- `interim` and `stop` they are NAME SESSION and the optional word station=S, before which `start`
-- and `interim` have the optional words multi=M and class=N.
use Rattle.std.specs.Prelude.{ℕ, List, ◌∷◌, codes, Option, None, Some}
use Rattle.rsl_accounts.specs.Address.{address_of}
use Rattle.rsl_script.specs.declared.accounting.Ties.{Ties}
use Rattle.rsl_script.specs.declared.event_line.Happening.{Happening}
use Rattle.rsl_script.specs.declared.event_line.Happening.TheVariants.{Accounting}
use Rattle.rsl_event.specs.declared.status.Status.{Status}
use Rattle.rsl_event.specs.declared.status.Status.TheVariants.{Start, Stop, InterimUpdate, AccountingOn, AccountingOff}
use Rattle.rsl_script.specs.declared.request.AccountingRequest.{AccountingRequest}
use Rattle.rsl_script.specs.declared.request.AccountingRequest.TheVariants.{Session, Server}
use Rattle.rsl_script.specs.Reads.{◌>>=◌}
use Rattle.rsl_script.specs.Values.{leading_number, leading_text, read_delay, read_name, read_nas, read_optional, read_station}

-- the optional words [multi=M] [class=N] [station=S], each at most once and in this order
unfoldable pub ties_of : (words : List (List ℕ)) → Option Ties
ties_of words =
    let bundle = leading_text (codes "multi=") words in
    let class = leading_number (codes "class=") bundle.1 in do
      bundle ← read_optional bundle.0
      station ← read_station class.1
      Some (record { bundle = bundle; class = class.0; station = station })

-- the end of a session has a station alone
unfoldable pub end_ties : (words : List (List ℕ)) → Option Ties
end_ties words = do
  station ← read_station words
  Some (record { bundle = None; class = None; station = station })

unfoldable pub ties_at : Status → (words : List (List ℕ)) → Option Ties
ties_at Stop words = end_ties words
ties_at status words = ties_of words

-- the report on a session: NAME SESSION, and then what ties it
unfoldable pub session_report : Status → (nas : Option (List ℕ)) → (words : List (List ℕ))
    → Option AccountingRequest
session_report status nas (name ∷ session ∷ rest) = do
  name ← read_name name
  session ← read_name session
  ties ← ties_at status rest
  Some (Session status nas name session ties.bundle ties.class ties.station)
session_report status nas _ = None

-- the report on an access server, with the optional word delay=N
unfoldable pub server_report : Status → (nas : Option (List ℕ)) → (words : List (List ℕ))
    → Option AccountingRequest
server_report status nas words = do
  delay ← read_delay words
  Some (Server status nas delay)

unfoldable pub report_of : Status → (nas : Option (List ℕ)) → (words : List (List ℕ))
    → Option AccountingRequest
report_of Start nas words = session_report Start nas words
report_of InterimUpdate nas words = session_report InterimUpdate nas words
report_of Stop nas words = session_report Stop nas words
report_of AccountingOn nas words = server_report AccountingOn nas words
report_of AccountingOff nas words = server_report AccountingOff nas words

-- what the words after the moment say
unfoldable pub read_accounting : Status → (words : List (List ℕ)) → Option Happening
read_accounting status (client ∷ nas ∷ rest) = do
  address ← address_of client
  nas ← read_nas nas
  request ← report_of status nas rest
  Some (Accounting address request)
read_accounting status _ = None
