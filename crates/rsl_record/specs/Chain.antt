-- The state after the lines of a shard's segments: how many they are, and the books that they make
-- of the shard's new ones.
use Rattle.std.specs.Prelude.{◌≡◌, ◌+◌, Option, Some, None}
use Rattle.rsl_event.specs.declared.event.Decision.{Decision}
use Rattle.rsl_record.specs.declared.chain.Chain.{Chain}
use Rattle.rsl_shard.specs.Moves.{IsTaken}
use Rattle.rsl_shard.specs.Restep.{books_after, decision_by}
use Rattle.rsl_shard.specs.declared.line.Line.{Line}
use Rattle.rsl_shard.specs.declared.segment.Segment.{Segment}

-- the segment begins after that many lines, with the books that they have made
pub record IsNext (chain : Chain) (segment : Segment) : Type 0 where
  pub first : segment.first ≡ chain.lines
  pub opening : segment.opening.items ≡ chain.books.books

-- the move of a line was made, with this decision
pub record HasTaken (old new : Chain) (line : Line) (decision : Decision) : Type 0 where
  pub taken : IsTaken old.books.setup line.moved
  pub decided : decision ≡ decision_by old.books.setup old.books.books line.moved
  pub setup : new.books.setup ≡ old.books.setup
  pub books : new.books.books ≡ books_after old.books.setup old.books.books line.moved
  pub lines : new.lines ≡ old.lines + 1

abbrev pub HasMade : (old new : Chain) → Line → Type 0
HasMade old new line = (decision : Decision) × HasTaken old new line decision

-- if the shard does not take the move, there is no decision, and nothing has changed
abbrev pub Takes : (old new : Chain) → Line → Option Decision → Type 0
Takes old new line None = (IsTaken old.books.setup line.moved → ⊥) × (new ≡ old)
Takes old new line (Some decision) = HasTaken old new line decision
