-- What a service does with a datagram, and with the passing of time, for its caller's pass.
use Rattle.std.specs.Prelude.{◌≡◌, ℕ, List}
use Rattle.rsl_event.specs.Answer.{answer, said}
use Rattle.rsl_event.specs.declared.event.Decision.{Decision}
use Rattle.rsl_event.specs.declared.event.Decision.TheVariants.{Done}
use Rattle.rsl_event.specs.declared.meaning.Meaning.{Meaning}
use Rattle.rsl_event.specs.declared.meaning.Prepared.{Prepared}
use Rattle.rsl_shard.specs.Moves.{moves_of}
use Rattle.rsl_shard.specs.declared.moves.Moves.{Moves}
use Rattle.rsl_shard.specs.declared.moves.Moves.TheVariants.{Nothing, One, Each}
use Rattle.rsl_wire.specs.Seen.{fields_of}
use Rattle.rsl_service.specs.Receipts.{IsNoted, AreNoted}
use Rattle.rsl_service.specs.Service.{ServiceSeen}
use Rattle.rsl_service.specs.declared.apply.Answered.{Answered}
use Rattle.rsl_service.specs.declared.fault.ApplyFault.{ApplyFault}
use Rattle.rsl_service.specs.declared.fault.ApplyFault.TheVariants as faults
use Rattle.rsl_service.specs.declared.fault.StepFault.{StepFault}
use Rattle.rsl_service.specs.declared.fault.StepFault.TheVariants as steps
use Rattle.rsl_record.specs.declared.receipt.Receipt.{Receipt}

-- the answer, in a word and in octets, to a datagram with this decision
pub record IsAnswered (service : ServiceSeen) (prepared : Prepared) (decision : Decision)
    (answered : Answered) : Type 0 where
  pub word : answered.said ≡ said prepared.meaning decision
  pub octets : answered.octets.items ≡ answer service.config service.boot prepared.client
      (fields_of prepared.packet) prepared.meaning decision

-- The moves of a datagram are made: one by its shard, which decides it, and one of every shard by
-- all of them in turn. What is no ask is done.
abbrev pub HasMade : (shards : ℕ) → Moves → Decision → (old new : List Receipt) → Type 0
HasMade shards Nothing decision old new = (decision ≡ Done) × (new ≡ old)
HasMade shards (One shard moved) decision old new = IsNoted shard moved decision old new
HasMade shards (Each moved) decision old new =
    (decision ≡ Done) × AreNoted shards moved old new

-- the decision on a datagram of this meaning, with its moves made
abbrev pub HasDecided : ServiceSeen → (moment : ℕ) → Meaning → Decision → (old new : List Receipt)
    → Type 0
HasDecided service moment meaning decision old new =
    HasMade service.config.settings.shards (moves_of service.config moment meaning) decision old new

-- a datagram has made its moves, and is answered as they were decided
pub record IsApplied (service : ServiceSeen) (moment : ℕ) (prepared : Prepared)
    (answered : Answered) (old new : List Receipt) : Type 0 where
  pub decision : Decision
  pub decided : HasDecided service moment prepared.meaning decision old new
  pub answer : IsAnswered service prepared decision answered

-- how many shards had made their moves before a fault
abbrev pub swept_before : ApplyFault → ℕ
swept_before (faults.NoMemory swept) = swept
swept_before (faults.Spent swept) = swept

-- the fault of a step that was not made, after `swept` shards had made their moves
abbrev pub fault_after : (swept : ℕ) → StepFault → ApplyFault
fault_after swept steps.NoMemory = faults.NoMemory swept
fault_after swept steps.Spent = faults.Spent swept

-- when a fault comes, the first shards may have made a move of every shard; any other move was not
-- made
abbrev pub AreStopped : Moves → ApplyFault → (old new : List Receipt) → Type 0
AreStopped (Each moved) fault old new = AreNoted (swept_before fault) moved old new
AreStopped (One shard moved) fault old new = (swept_before fault ≡ 0) × (new ≡ old)
AreStopped Nothing fault old new = (swept_before fault ≡ 0) × (new ≡ old)

-- when a fault comes, a restart may have swept some shards, from 0 on; everything else made no move
abbrev pub IsStopped : ServiceSeen → (moment : ℕ) → Meaning → ApplyFault → (old new : List Receipt)
    → Type 0
IsStopped service moment meaning fault old new =
    AreStopped (moves_of service.config moment meaning) fault old new
