-- A shard and a pass after the shard has made a move for the pass.
use Rattle.std.specs.Prelude.{◌≡◌, ℕ, List, [], ◌∷◌, ◌++◌}
use Rattle.rsl_event.specs.declared.event.Decision.{Decision}
use Rattle.rsl_record.specs.declared.receipt.Receipt.{Receipt}
use Rattle.rsl_shard.specs.Restep.{decision_by}
use Rattle.rsl_shard.specs.Seen.{ShardSeen, books_of, total_of, with_line}
use Rattle.rsl_shard.specs.declared.moved.Move.{Move}

-- The shard has another line, decided by its books; and there is another receipt, of that line and
-- its position.
pub record IsMade (number : ℕ) (moved : Move) (decision : Decision) (old new : ShardSeen)
    (before after : List Receipt) : Type 0 where
  pub line : new ≡ with_line old moved decision
  pub decided : decision ≡ decision_by old.setup (books_of old) moved
  pub noted : after ≡ before ++ record {
    shard = number;
    position = total_of old;
    line = record { moved = moved; decision = decision };
  } ∷ []
