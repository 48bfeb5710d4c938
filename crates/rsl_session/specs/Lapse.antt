-- A reserved link lapses once it is untouched for the reserve time, and a bound one once it is
-- untouched for the live time and the grace time. A bound link is live until the live time is over,
-- and then stale.
use Rattle.std.specs.Prelude.{ℕ, ◌+◌, ◌-◌, Bool, ◌&&◌, nat_le, nat_lt, is_some, Option, Some, None}
use Rattle.rsl_accounts.specs.declared.rules.Rules.{Rules}
use Rattle.rsl_event.specs.declared.event.Event.{Event}
use Rattle.rsl_session.specs.declared.session.Session.{Session}
use Rattle.rsl_session.specs.Past.{Past}
use Rattle.rsl_session.specs.Clock.{clock, clock_at}
use Rattle.rsl_session.specs.Binding.{session_at}
use Rattle.rsl_session.specs.Touch.{touched_at}

-- the seconds for which an untouched link is held
abbrev pub standing_time : Rules → Option Session → ℕ
standing_time rules None = rules.reserve
standing_time rules (Some session) = rules.live + rules.grace

-- whether a link lapses when an event comes
unfoldable pub lapses : Rules → Past → Event → ℕ → Bool
lapses rules past event link =
    nat_le (standing_time rules (session_at link past)) (clock_at past event - touched_at link past)

-- whether a link is idle when an event comes: bound, and its live time is over
unfoldable pub is_idle : Rules → Past → Event → ℕ → Bool
is_idle rules past event link =
    is_some (session_at link past) && nat_le rules.live (clock_at past event - touched_at link past)

-- whether a link is bound, and live or stale
unfoldable pub is_live : Rules → Past → ℕ → Bool
is_live rules past link =
    is_some (session_at link past) && nat_lt (clock past - touched_at link past) rules.live

unfoldable pub is_stale : Rules → Past → ℕ → Bool
is_stale rules past link =
    is_some (session_at link past) && nat_le rules.live (clock past - touched_at link past)
