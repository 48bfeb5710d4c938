-- The receipts of a pass: one for each move that its holder made, in the order of the calls.
use Rattle.std.specs.Prelude.{◌≡◌, ℕ, ◌==◌, List, [], ◌∷◌, ◌++◌, zero, suc, count_by, map}
use Rattle.rsl_event.specs.declared.event.Decision.{Decision}
use Rattle.rsl_event.specs.declared.event.Decision.TheVariants.{Done}
use Rattle.rsl_shard.specs.declared.moved.Move.{Move}
use Rattle.rsl_record.specs.declared.receipt.Receipt.{Receipt}

-- what a contract sees of a pass: its receipts, and the octets of a reply for which it has room
pub record PassSeen : Type 0 where
  pub receipts : List Receipt
  pub room : ℕ

-- a pass with no receipt
abbrev pub new_pass : PassSeen
new_pass = record { receipts = []; room = 0 }

-- the receipts of passes
abbrev pub receipts_of : List PassSeen → List (List Receipt)
receipts_of passes = map (λ (pass : PassSeen). pass.receipts) passes

-- the number of receipts of a shard
unfoldable pub count_of : (shard : ℕ) → List Receipt → ℕ
count_of shard receipts = count_by (λ (receipt : Receipt). receipt.shard == shard) receipts

-- another receipt, of this shard, with this move and this decision
pub record IsNoted (shard : ℕ) (moved : Move) (decision : Decision) (old new : List Receipt)
    : Type 0 where
  pub position : ℕ
  pub noted : new ≡ old ++ record {
    shard = shard;
    position = position;
    line = record { moved = moved; decision = decision };
  } ∷ []

-- another receipt of this shard, with this move of every shard, which is done
pub record HasOneMore (shard : ℕ) (moved : Move) (old new : List Receipt) : Type 0 where
  pub decision : Decision
  pub done : decision ≡ Done
  pub noted : IsNoted shard moved decision old new

-- another receipt of each of the first shards, in order, with this move: those of the shards before
-- the last, and then that of the last
unfoldable pub AreNoted : (shards : ℕ) → Move → (old new : List Receipt) → Type 0
AreNoted zero moved old new = new ≡ old
AreNoted (suc shard) moved old new =
    (before : List Receipt) × AreNoted shard moved old before × HasOneMore shard moved before new
