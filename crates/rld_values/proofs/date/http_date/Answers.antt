use Rattle.std.proofs.Common.{rules, ◌≡◌, ℕ, List, true, Some, sym, ap, ◌∙◌}
use Rattle.std.specs.Prelude.{nat_lt}
use Rattle.httpdate.specs.Date.{date_text, unix_secs}
use Rattle.httpdate.specs.declared.date.HttpDate.{HttpDate}
use Rattle.rld_values.specs.Dates.{AreDates, http_date}
use Rattle.rld_values.proofs.date.http_date.Goals as goal

dated : (dates : ℕ → List ℕ) (date : HttpDate) (second : ℕ) (octets : List ℕ) → AreDates dates → nat_lt second 253402300800 ≡ true
    → unix_secs date ≡ second → octets ≡ date_text date → Some octets ≡ http_date dates second
dated dates date second octets are early is written =
    rw early (ap Some (written ∙ sym (are date) ∙ ap dates is))

pub returns-in-Ok : goal.returns-in-Ok
returns-in-Ok c dates are =
    dated dates c.in-Ok.date c.args.second c.to_bytes.result are (search rules) c.in-Ok.ensures.value c.to_bytes.ensures
