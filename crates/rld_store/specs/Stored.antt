-- What a store has recorded, and why it did not record a batch.
use Rattle.std.specs.Prelude.{ℕ, Bool, false, List, Result, Ok, Err}
use Rattle.rsl_accounts.specs.Configuration.{Configuration}
use Rattle.rld_books.specs.Server.{ServerSeen}
use Rattle.rsl_shard.specs.declared.moved.Move.{Move}
use Rattle.rld_log.specs.declared.fault.LogFault.TheVariants as log_faults
use Rattle.rld_log.specs.declared.log.Ending.{Ending}
use Rattle.rld_store.specs.Recorded.{is_last}
use Rattle.rld_store.specs.Standing.{StandsFor}
use Rattle.rld_store.specs.declared.fault.StoreFault.{StoreFault}
use Rattle.rld_store.specs.declared.fault.StoreFault.TheVariants as store_faults
use Rattle.rld_store.specs.declared.store.End.{End}
use Rattle.rld_store.specs.declared.fault.RecordFault.{RecordFault}
use Rattle.rld_store.specs.declared.fault.RecordFault.TheVariants.{Failed, Ended}

-- A store has recorded a history that opened with these books: it stands for it, and
-- perhaps for an unanswered batch after it. If a batch is not recorded, the history stays, and
-- which batch that is may change.
pub record HasRecorded (config : Configuration) (opening : ServerSeen)
    (tears : List ℕ → List ℕ → Type 0) (end : End) (seen : List ℕ)
    (may_leave : Ending → List ℕ → Type 0) (whole : ℕ) (books : ServerSeen)
    (history : List Move) : Type 0 where
  pub unanswered : List Move
  pub stands : StandsFor config opening tears end seen may_leave whole books history unanswered

-- after a failed sync nothing more can be recorded, after any other fault another batch may be
abbrev pub record_fault : StoreFault → RecordFault
record_fault (store_faults.Log log_faults.Unsynced) = Ended
record_fault _ = Failed

-- whether a call of a store failed since a sync did
abbrev pub is_unsynced : {T : Type 0} → Result T StoreFault → Bool
is_unsynced (Ok value) = false
is_unsynced (Err fault) = is_last (record_fault fault)
