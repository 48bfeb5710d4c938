-- A batch after it was answered.
use Rattle.std.specs.Prelude.{◌≡◌, ℕ, List, [], ◌++◌, Option}
use Rattle.rsl_event.specs.declared.event.Decision.{Decision}
use Rattle.rsl_event.specs.declared.meaning.Port.{Port}
use Rattle.rld_books.specs.Server.{ServerSeen}
use Rattle.rsl_shard.specs.declared.moved.Move.{Move}
use Rattle.rld_turn.specs.Entered.{AreEntered}
use Rattle.rld_turn.specs.Recorded.{HasDecided, is_recorded}
use Rattle.rld_turn.specs.Told.{HasTold, Told}
use Rattle.rld_turn.specs.Present.{PeerDatagram, ServiceSeen}
use Rattle.rld_turn.specs.Turned.{Turned}
use Rattle.rld_turn.specs.declared.request.Entry.{Entry}

-- what entries are of: datagrams, and moves on which these books decided, if they are recorded
pub record Batch (service : ServiceSeen) (port : Port) (decisions : Option (List Decision))
    (entries : List Entry) : Type 0 where
  pub moment : ℕ
  pub begun : ServerSeen
  pub taken : List PeerDatagram
  pub moves : List Move
  pub entered : AreEntered service port moment taken entries [] moves
  pub decided : HasDecided begun moves decisions

-- they ended so, as a watcher has learned, and these were the sends, if the port reports them
pub record HasAnswered (service : ServiceSeen) (port : Port) (Tells : Type 0)
    (decisions : Option (List Decision)) (entries : List Entry)
    (batch : Batch service port decisions entries)
    (old new : List PeerDatagram) (knew knows : List Told → Type 0) : Type 0 where
  pub sent : List PeerDatagram
  pub told : List Told
  pub more_sent : Tells → new ≡ old ++ sent
  pub more_told : HasTold told knew knows
  pub turned : Turned service port batch.moment (is_recorded decisions) batch.begun
      told batch.taken batch.moves sent
