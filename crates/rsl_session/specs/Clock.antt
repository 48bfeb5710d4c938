-- The clock of an account shows the highest moment of its events, and 0 before the first. An event
-- with a lower moment leaves the clock as it is.
use Rattle.std.specs.Prelude.{ℕ, [], ◌∷◌, max}
use Rattle.rsl_event.specs.declared.event.Event.{Event}
use Rattle.rsl_session.specs.Past.{Past}

unfoldable pub clock : Past → ℕ
clock [] = 0
clock (entry ∷ past) = max (clock past) entry.event.moment

-- the clock once an event has come
unfoldable pub clock_at : Past → Event → ℕ
clock_at past event = max (clock past) event.moment
