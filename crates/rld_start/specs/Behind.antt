-- A system clock that is behind the books.
use Rattle.std.specs.Prelude.{◌≡◌, ℕ, ◌-◌, nat_lt, if◌then◌else◌, length, Option, None, Some}
use Rattle.rld_books.specs.Clocks.{IsGreatestClock}
use Rattle.rsl_accounts.specs.Configuration.{Configuration}
use Rattle.rld_books.specs.Server.{ServerSeen}

-- how many seconds the system's clock is behind that of the books, if 60 or more
abbrev pub behind : (now clock : ℕ) → Option ℕ
behind now clock = if nat_lt (clock - now) 60 then None else Some (clock - now)

-- the same, of the greatest clock of these books
abbrev pub IsBehind : Configuration → ServerSeen → (now : ℕ) → Option ℕ → Type 0
IsBehind config books now secs =
    (clock : ℕ) × (IsGreatestClock books (length config.accounts) clock × (secs ≡ behind now clock))
