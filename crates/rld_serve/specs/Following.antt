-- What follows a start and a tick.
use Rattle.std.specs.Prelude.{◌≡◌, ◌⊎◌, Bool, true, false, Result, Ok, Err}
use Rattle.rld_edges.specs.declared.fault.RunFault.{RunFault}
use Rattle.rld_edges.specs.declared.fault.RunFault.TheVariants.{Threads, Unsynced}
use Rattle.rld_edges.specs.declared.shutdown.Start.{Start}
use Rattle.rld_edges.specs.declared.shutdown.Start.TheVariants as starts
use Rattle.rld_state.specs.Due.{just_begun, put_off}
use Rattle.rld_state.specs.declared.roll_fault.RollFault.{RollFault}
use Rattle.rld_state.specs.declared.roll_fault.RollFault.TheVariants as rolls
use Rattle.rld_state.specs.declared.timer.RollTimer.{RollTimer}
use Rattle.rld_store.specs.declared.fault.RecordFault.{RecordFault}
use Rattle.rld_store.specs.declared.fault.RecordFault.TheVariants as records

-- a worker works once all have started, and not where one has ended already
abbrev pub is_to_work : Start → Result Bool RunFault
is_to_work starts.All = Ok true
is_to_work starts.Over = Ok false
is_to_work starts.Missing = Err Threads

-- What follows a tick: whether it was recorded, or a batch of another worker was not meanwhile. The worker ends
-- where nothing more can be recorded.
abbrev pub failed_by : {T : Type 0} → Result T RecordFault → (has_failed : Bool) → Result Bool RunFault
failed_by (Ok ticked) has_failed = Ok has_failed
failed_by (Err records.Failed) has_failed = Ok true
failed_by (Err records.Ended) has_failed = Err Unsynced

-- The timer once the next generation was due: it has begun, or is put off. The worker ends where nothing more can be
-- recorded.
abbrev pub timer_after : {T : Type 0} → RollTimer → Result T RollFault → Result RollTimer RunFault
timer_after due (Ok begun) = Ok just_begun
timer_after due (Err rolls.Ended) = Err Unsynced
timer_after due (Err fault) = Ok (put_off due)

-- what follows where the next generation was due: its timer has just begun, or its begin is put off
abbrev pub HasBegun : (due new : RollTimer) → Type 0
HasBegun due new = (new ≡ just_begun) ⊎ (new ≡ put_off due)
