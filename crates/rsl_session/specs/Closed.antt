-- A session is closed if one of the last 16 stops is of it, is less than the closed time old, and
-- was not voided by a sweep since.
use Rattle.std.specs.Prelude.{ℕ, ◌-◌, List, [], ◌∷◌, Bool, ◌&&◌, not, nat_lt, take, Option, Some, None}
use Rattle.std.specs.List.{list_any, cons_option}
use Rattle.rsl_accounts.specs.declared.rules.Rules.{Rules}
use Rattle.rsl_event.specs.declared.event.Act.{Act}
use Rattle.rsl_event.specs.declared.event.Act.TheVariants.{Stop}
use Rattle.rsl_event.specs.declared.event.Event.{Event}
use Rattle.rsl_session.specs.declared.kept.KeptStop.{KeptStop}
use Rattle.rsl_session.specs.declared.session.Session.{Session}
use Rattle.rsl_session.specs.Past.{Past}
use Rattle.rsl_session.specs.Same.{same_session}
use Rattle.rsl_session.specs.Clock.{clock, clock_at}
use Rattle.rsl_session.specs.Sweep.{swept_in}

-- how many of the last stops can close a session
abbrev pub KEPT_STOPS : ℕ
KEPT_STOPS = 16

-- a stop as it is kept, with its clock and whether a sweep since voided it
abbrev pub kept_stop : ℕ → List (ℕ × Act) → Act → Option KeptStop
kept_stop now since (Stop nas session) =
    Some (record
    { session = record { nas = nas; id = session }; at = now; swept = swept_in since nas now })
kept_stop now since act = None

-- the stops of a past, newest first, where these acts came since, each with its clock
unfoldable pub stops : List (ℕ × Act) → Past → List KeptStop
stops since [] = []
stops since (entry ∷ past) =
    cons_option (kept_stop (clock (entry ∷ past)) since entry.event.act)
    (stops ((clock (entry ∷ past), entry.event.act) ∷ since) past)

-- whether a stop closes a session at this clock
unfoldable pub closes : Rules → Session → ℕ → KeptStop → Bool
closes rules session now stop =
    same_session stop.session session && nat_lt (now - stop.at) rules.closed && not stop.swept

unfoldable pub is_closed : Rules → Past → Event → Session → Bool
is_closed rules past event session =
    list_any (closes rules session (clock_at past event)) (take KEPT_STOPS (stops [] past))
