-- The asks and stops that a book keeps: each names its access server by an index of a table.
use Rattle.std.specs.Prelude.{ℕ, List, map, Bool, ◌&&◌, ◌||◌}
use Rattle.rsl_event.specs.declared.nas.Nas.{Nas}
use Rattle.rsl_session.specs.declared.kept.KeptAsk.{KeptAsk}
use Rattle.rsl_session.specs.declared.kept.KeptStop.{KeptStop}
use Rattle.rsl_session.specs.Same.{same_nas}
use Rattle.rsl_session.specs.Sweep.{precedes}
use Rattle.rsl_book.specs.declared.kept.Kept.{Kept}
use Rattle.rsl_book.specs.declared.kept.DecidedAsk.{DecidedAsk}
use Rattle.rsl_book.specs.declared.kept.EndedSession.{EndedSession}
use Rattle.rsl_links.specs.Seen.{server_at}

-- a kept ask or stop, with its access server itself
pub record SeenKept (S : Type 0) : Type 0 where
  pub subject : S
  pub at : ℕ
  pub swept : Bool
  pub nas : Nas

unfoldable pub kept_seen : {S : Type 0} → List Nas → Kept S → SeenKept S
kept_seen servers kept =
    record { subject = kept.subject; at = kept.at; swept = kept.swept; nas = server_at servers kept.nas }

unfoldable pub all_seen : {S : Type 0} → List Nas → List (Kept S) → List (SeenKept S)
all_seen servers all = map (kept_seen servers) all

unfoldable pub ask_seen : List Nas → Kept DecidedAsk → KeptAsk
ask_seen servers ask =
    record {
      key = ask.subject.key;
      nas = server_at servers ask.nas;
      decision = ask.subject.decision;
      at = ask.at;
      swept = ask.swept;
    }

unfoldable pub asks_seen : List Nas → List (Kept DecidedAsk) → List KeptAsk
asks_seen servers asks = map (ask_seen servers) asks

unfoldable pub stop_seen : List Nas → Kept EndedSession → KeptStop
stop_seen servers stop =
    record {
      session = record { nas = server_at servers stop.nas; id = stop.subject.id };
      at = stop.at;
      swept = stop.swept;
    }

unfoldable pub stops_seen : List Nas → List (Kept EndedSession) → List KeptStop
stops_seen servers stops = map (stop_seen servers) stops

-- a sweep of an access server, told some seconds late
unfoldable pub sweep_kept : {S : Type 0} → List Nas → Nas → (delay now : ℕ) → Kept S → Kept S
sweep_kept servers nas delay now kept =
    record kept {
      swept = kept.swept
          || (same_nas nas (server_at servers kept.nas) && precedes kept.at delay now);
    }
