-- What the state of a server remembers of the calls of its recorder.
use Rattle.std.specs.Prelude.{◌≡◌, ⊤, ℕ, Bool, true, false, Result, Ok, Err}
use Rattle.rld_store.specs.declared.fault.RecordFault.{RecordFault}
use Rattle.rld_store.specs.declared.fault.RecordFault.TheVariants.{Ended, Failed}
use Rattle.rld_look.specs.Totals.{plus}
use Rattle.rld_state.specs.declared.roll_fault.NotBegun.{NotBegun}
use Rattle.rld_state.specs.declared.roll_fault.NotBegun.TheVariants.{PassedOver, Ended as NothingMore}
use Rattle.rld_state.specs.declared.roll_fault.RollFault.{RollFault}
use Rattle.rld_state.specs.declared.roll_fault.RollFault.TheVariants as rolls

-- a batch was not recorded, and another may be
abbrev pub is_failed : {T : Type 0} → Result T RecordFault → Bool
is_failed (Ok value) = false
is_failed (Err Failed) = true
is_failed (Err Ended) = false

-- the number of moves of a generation of `moves` moves after a batch of `count` moves with this
-- outcome: all of these are added, or none
abbrev pub moves_after : {T : Type 0} → (moves count : ℕ) → Result T RecordFault → ℕ
moves_after moves count (Ok value) = plus moves count
moves_after moves count (Err fault) = moves

-- a generation did not begin, and nothing more can be recorded
abbrev pub ends : NotBegun → Bool
ends (PassedOver fault removed) = false
ends NothingMore = true

abbrev pub is_over : {T : Type 0} → Result T NotBegun → Bool
is_over (Ok value) = false
is_over (Err refused) = ends refused

-- The log of the generation that did not begin was removed, so that no start goes on from it; or
-- nothing more can be recorded.
abbrev pub IsGone : (failed : ℕ) → NotBegun → Type 0
IsGone failed (PassedOver fault removed) = removed.generation ≡ failed
IsGone failed NothingMore = ⊤

-- why it did not begin
abbrev pub fault_of : NotBegun → RollFault
fault_of (PassedOver fault removed) = fault
fault_of NothingMore = rolls.Ended
