-- What a receiver counts, beside the counts of its port.
use Rattle.std.specs.Prelude.{◌≡◌, ℕ, ◌+◌, Result, Ok, Err}
use Rattle.rsl_service.specs.declared.counts.Counts.{Counts}
use Rattle.rsl_service.specs.declared.receiver.ReceiveFault.{ReceiveFault}
use Rattle.rsl_service.specs.declared.receiver.ReceiveFault.TheVariants as faults
use Rattle.rsl_port.specs.declared.datagram_port.Numbers.{Numbers}

-- a fact of the counts, if there are any: those of all turns, or those up to a failure
abbrev pub IfCounted : Result Counts ReceiveFault → (Counts → Type 0) → Type 0
IfCounted (Ok counts) P = P counts
IfCounted (Err (faults.Down counts)) P = P counts
IfCounted (Err faults.NoMemory) P = Unit {0}

abbrev pub no_counts : Counts
no_counts = record {
  turns = 0;
  received = 0;
  answered = 0;
  dropped = 0;
  refused = 0;
  unsent = 0;
}

-- every datagram received is answered, dropped, refused or its answer unsent
abbrev pub AddsUp : Counts → Type 0
AddsUp counts =
    counts.received ≡ counts.answered + counts.dropped + counts.refused + counts.unsent

-- the calls of `receive` that failed: the one that ended the turns, if one did
abbrev pub failed_in : Result Counts ReceiveFault → ℕ
failed_in (Ok counts) = 0
failed_in (Err (faults.Down counts)) = 1
failed_in (Err faults.NoMemory) = 0

-- `receive` of a port was called `receives` times and `send` `sends` times, `failed_receives` and
-- `failed_sends` of these calls failed, and none of the sends went astray
pub record IsCalled (receives failed_receives sends failed_sends : ℕ) (old new : Numbers)
    : Type 0 where
  pub receives_now : new.receives ≡ old.receives + receives
  pub receives_failed : new.failed_receives ≡ old.failed_receives + failed_receives
  pub sends_now : new.sends ≡ old.sends + sends
  pub sends_failed : new.failed_sends ≡ old.failed_sends + failed_sends
  pub none_astray : new.astray ≡ old.astray

-- as these counts say: one call of `receive` a turn, and one of `send` an answer, of which the
-- unsent failed
abbrev pub AreCounted : (failed_receives : ℕ) → Counts → (old new : Numbers) → Type 0
AreCounted failed_receives counts old new =
    IsCalled counts.turns failed_receives (counts.answered + counts.unsent) counts.unsent old new
