-- What came in each of the last minutes.
use Rattle.std.specs.Prelude.{ℕ, ◌-◌, ◌*◌, ◌/◌, ◌^◌, ◌==◌, min, Bool, true, false, List, [], ◌∷◌, ◌++◌, codes, drop, length, slice_get, Option, Some, None, if◌then◌else◌}
use Rattle.rld_counts.specs.Counts.{count_in}
use Rattle.rld_counts.specs.Fates.{at, causes_at, kind_of}
use Rattle.rld_counts.specs.declared.cause.Cause.{Cause}
use Rattle.rld_counts.specs.declared.gate.Gate.{Gate}
use Rattle.rld_counts.specs.declared.gate.Gate.TheVariants.{Auth, Acct, Ask}
use Rattle.rld_counts.specs.declared.kind.Kind.{Kind}
use Rattle.rld_counts.specs.declared.kind.Kind.TheVariants.{Accepted, LimitRejected, Rejected, Accounted, NoAccount, Dropped, Failed}
use Rattle.rld_look.specs.Totals.{plus}
use Rattle.rld_look.specs.declared.history.Came.{Came}
use Rattle.rld_look.specs.declared.look.Look.{Look}
use Rattle.rld_look.specs.declared.look.Minute.{Minute}

-- the whole minutes that are kept, oldest first; the number of the present one, since 1970, and
-- whether it is whole; and what had come before it
pub record HistorySeen : Type 0 where
  pub minutes : List Minute
  pub current : ℕ
  pub is_whole : Bool
  pub before : Came

abbrev pub no_came : Came
no_came = record { accepts = 0; limit_rejects = 0; rejects = 0; accounting = 0 }

-- the history at the start, in a minute that is not whole
abbrev pub nothing_yet : (now : ℕ) → HistorySeen
nothing_yet now = record {
  minutes = [];
  current = now / 60;
  is_whole = false;
  before = no_came;
}

-- what has come, with further datagrams that ended in one way
abbrev pub with_came : Came → Kind → (number : ℕ) → Came
with_came came Accepted number = record { accepts = plus came.accepts number; limit_rejects = came.limit_rejects; rejects = came.rejects; accounting = came.accounting }
with_came came LimitRejected number = record { accepts = came.accepts; limit_rejects = plus came.limit_rejects number; rejects = came.rejects; accounting = came.accounting }
with_came came Rejected number = record { accepts = came.accepts; limit_rejects = came.limit_rejects; rejects = plus came.rejects number; accounting = came.accounting }
with_came came Accounted number = record { accepts = came.accepts; limit_rejects = came.limit_rejects; rejects = came.rejects; accounting = plus came.accounting number }
with_came came NoAccount number = record { accepts = came.accepts; limit_rejects = came.limit_rejects; rejects = came.rejects; accounting = plus came.accounting number }
with_came came Dropped number = came
with_came came Failed number = came

-- what has come to a gate and ended for these causes, added to earlier numbers
abbrev pub came_after : (counts : List ℕ) → Gate → Came → List Cause → Came
came_after counts gate came [] = came
came_after counts gate came (cause ∷ causes) =
    came_after counts gate (with_came came (kind_of cause) (count_in counts (at gate cause))) causes

abbrev pub came_to : (counts : List ℕ) → Gate → Came → Came
came_to counts gate came = came_after counts gate came (causes_at gate)

-- what has come, from these counts
abbrev pub came_in : (counts : List ℕ) → Came
came_in counts = came_to counts Ask (came_to counts Acct (came_to counts Auth no_came))

-- a minute: what has come since it began, and the places held at its end
abbrev pub minute_of : (number : ℕ) → (before after : Came) → (held : ℕ) → Minute
minute_of number before after held = record {
  start = min (number * 60) (2 ^ 64 - 1);
  accepts = after.accepts - before.accepts;
  limit_rejects = after.limit_rejects - before.limit_rejects;
  rejects = after.rejects - before.rejects;
  accounting = after.accounting - before.accounting;
  held = held;
}

-- the last 60 minutes
abbrev pub last_minutes : List Minute → List Minute
last_minutes minutes = drop (length minutes - 60) minutes

-- the minutes with another one, if it was whole
abbrev pub kept_minutes : List Minute → Minute → (is_whole : Bool) → List Minute
kept_minutes minutes minute false = minutes
kept_minutes minutes minute true = last_minutes (minutes ++ minute ∷ [])

-- the history once the minute is over and the minute with this number begins
abbrev pub with_minute : HistorySeen → (next : ℕ) → Came → (held : ℕ) → HistorySeen
with_minute history next came held = record {
  minutes = kept_minutes history.minutes (minute_of history.current history.before came held) history.is_whole;
  current = next;
  is_whole = true;
  before = came;
}

abbrev pub last_of : List Minute → Option Minute
last_of minutes = slice_get minutes (length minutes - 1)

-- ---- the latest numbers

-- a number that came in `seconds` seconds, scaled to a minute; no seconds count as one
abbrev pub a_minute : (number seconds : ℕ) → ℕ
a_minute number seconds = min (number * 60) (2 ^ 64 - 1) / (if seconds == 0 then 1 else seconds)

-- the minute that began at `start`, with what came in `seconds` seconds scaled to a minute
abbrev pub minute_at : Came → (start seconds held : ℕ) → Minute
minute_at came start seconds held = record {
  start = start;
  accepts = a_minute came.accepts seconds;
  limit_rejects = a_minute came.limit_rejects seconds;
  rejects = a_minute came.rejects seconds;
  accounting = a_minute came.accounting seconds;
  held = held;
}

abbrev pub latest_by : Option Minute → Look → Minute
latest_by (Some minute) look = minute
latest_by None look = minute_at (came_in look.counts) look.start (look.now - look.start) look.totals.held

-- the last whole minute; before one is over, a minute at the rate so far
abbrev pub latest_of : Look → Minute
latest_of look = latest_by (last_of look.minutes.items) look

-- in which time the latest numbers came
abbrev pub span_of : Look → List ℕ
span_of look = if length look.minutes.items == 0 then codes "so far" else codes "last minute"
