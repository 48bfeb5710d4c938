-- The journal of a shard: its lines, and what the books of the shard decide on them.
use Rattle.std.specs.Prelude.{◌≡◌, ℕ, List, take, All, slice_get, Some}
use Rattle.rsl_book.specs.RuledBook.{RuledBook}
use Rattle.rsl_shard.specs.Moves.{IsTaken}
use Rattle.rsl_shard.specs.Restep.{decision_by, restep}
use Rattle.rsl_shard.specs.Setup.{Setup}
use Rattle.rsl_shard.specs.declared.line.Line.{Line}

-- the shard takes each line's move, and its decision is the books' at that point
pub record IsJournal (setup : Setup) (opening : List RuledBook) (lines : List Line) : Type 0 where
  pub taken : All (λ line. IsTaken setup line.moved) lines
  pub decided : (n : ℕ) (line : Line) → slice_get lines n ≡ Some line
      → line.decision ≡ decision_by setup (restep setup opening (take n lines)) line.moved

-- what a contract sees of a shard's lines, and the room for more
pub record JournalSeen : Type 0 where
  pub lines : List Line
  pub room : ℕ
