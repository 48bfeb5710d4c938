-- A clock of the system that is behind the books: deadlines wait until it is there.
use Rattle.std.specs.Prelude.{ℕ, ◌-◌, nat_lt, Bool, true, false, Option, Some, None}
use Rattle.rld_state.specs.declared.clock.ClockNews.{ClockNews}
use Rattle.rld_state.specs.declared.clock.ClockNews.TheVariants.{Behind, CaughtUp}

-- by how many seconds the system's clock is behind that of the books
abbrev pub seconds_behind : (now clock : ℕ) → ℕ
seconds_behind now clock = clock - now

abbrev pub is_behind : (behind : ℕ) → Bool
is_behind behind = nat_lt 0 behind

abbrev pub clock_news_by : (before now : Bool) → (behind : ℕ) → Option ClockNews
clock_news_by false true behind = Some (Behind behind)
clock_news_by true false behind = Some CaughtUp
clock_news_by false false behind = None
clock_news_by true true behind = None

-- what is reported: once when it begins, and once when it is over
abbrev pub clock_news : (before : Bool) → (behind : ℕ) → Option ClockNews
clock_news before behind = clock_news_by before (is_behind behind) behind
