-- What a contract sees of a segment whose lines are still in chunks: what the joined segment has.
use Rattle.std.specs.Prelude.{ℕ, List}
use Rattle.rsl_book.specs.RuledBook.{RuledBook}
use Rattle.rsl_shard.specs.declared.line.Line.{Line}

pub record LooseSeen : Type 0 where
  pub shard : ℕ
  pub first : ℕ
  pub opening : List RuledBook
  pub lines : List Line
