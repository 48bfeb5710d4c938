-- A batch that is recorded, or refused.
use Rattle.std.specs.Prelude.{◌≡◌, ℕ, Bool, true, false, List, Option, Some, None, Result, Ok, Err}
use Rattle.rsl_event.specs.declared.event.Decision.{Decision}
use Rattle.rsl_shard.specs.declared.moved.Move.{Move}
use Rattle.rld_books.specs.Server.{AreTakenIn, ServerSeen, decisions_of}
use Rattle.rld_store.specs.declared.fault.RecordFault.{RecordFault}
use Rattle.rld_store.specs.declared.fault.RecordFault.TheVariants.{Failed, Ended}

-- its moves, the books before it, a decision on each of the moves, and the number of their table
pub record RecordedSeen : Type 0 where
  pub batch : List Move
  pub before : ServerSeen
  pub decisions : List Decision
  pub table : ℕ

-- those books can make the moves, and the decisions are theirs
pub record AreDecided (recorded : RecordedSeen) : Type 0 where
  pub taken : AreTakenIn recorded.before recorded.batch
  pub decided : recorded.decisions ≡ decisions_of recorded.before recorded.batch

-- a batch that was prepared with the accounts of a table is of that table alone; one that names no
-- account, such as a tick, is of any
abbrev pub IsOfTable : Option ℕ → (table : ℕ) → Type 0
IsOfTable None table = Unit {0}
IsOfTable (Some one) table = table ≡ one

-- whether nothing more can be recorded after this fault
abbrev pub is_last : RecordFault → Bool
is_last Failed = false
is_last Ended = true

-- whether a batch was refused since nothing more can be recorded
abbrev pub is_ended : {T : Type 0} → Result T RecordFault → Bool
is_ended (Ok recorded) = false
is_ended (Err fault) = is_last fault
