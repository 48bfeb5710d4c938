-- What became of a batch, and what it made of the books.
use Rattle.std.specs.Prelude.{◌≡◌, List, [], length, Bool, true, false, Option, Some, None, Result, Ok, Err}
use Rattle.rsl_event.specs.declared.event.Decision.{Decision}
use Rattle.rsl_shard.specs.declared.moved.Move.{Move}
use Rattle.rld_books.specs.Server.{ServerSeen, decisions_of}
use Rattle.rld_store.specs.Recorded.{AreDecided, RecordedSeen}
use Rattle.rld_store.specs.declared.fault.RecordFault.{RecordFault}

-- what became of the moves of a turn: they are recorded, or there were none; or why they are not
abbrev pub Outcome : Type 0
Outcome = Result (Option RecordedSeen) RecordFault

-- what was recorded, if anything
abbrev pub recorded_in : Outcome → Option RecordedSeen
recorded_in (Ok recorded) = recorded
recorded_in (Err fault) = None

-- the decisions on what was recorded
abbrev pub decided_in : Option RecordedSeen → Option (List Decision)
decided_in None = None
decided_in (Some recorded) = Some recorded.decisions

abbrev pub decisions_in : Outcome → Option (List Decision)
decisions_in outcome = decided_in (recorded_in outcome)

-- whether the batch is recorded
abbrev pub is_recorded : {A : Type 0} → Option A → Bool
is_recorded None = false
is_recorded (Some recorded) = true

-- what was recorded is this very batch, decided by the books before it
abbrev pub IsOf : (batch : List Move) → Option RecordedSeen → Type 0
IsOf batch None = Unit {0}
IsOf batch (Some recorded) = (recorded.batch ≡ batch) × AreDecided recorded

-- the books before the batch, if it is recorded
abbrev pub books_before : Option RecordedSeen → ServerSeen
books_before None = []
books_before (Some recorded) = recorded.before

-- there is a decision on each of its moves, if it is recorded
abbrev pub HasCount : Option (List Decision) → (batch : List Move) → Type 0
HasCount None batch = Unit {0}
HasCount (Some decisions) batch = length decisions ≡ length batch

-- these decisions are those of the books
abbrev pub HasDecided : (begun : ServerSeen) → (batch : List Move) → Option (List Decision) → Type 0
HasDecided begun batch None = Unit {0}
HasDecided begun batch (Some decisions) = decisions ≡ decisions_of begun batch
