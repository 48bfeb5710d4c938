-- What a contract sees of a shard: what it knows of the configuration, how many lines were handed
-- out, the books that its journal begins with, and the lines of its journal. Its books are what the
-- lines make of those.
use Rattle.std.specs.Prelude.{ℕ, ◌+◌, ◌^◌, ◌<◌, List, [], ◌∷◌, ◌++◌, length}
use Rattle.rsl_accounts.specs.Configuration.{Configuration}
use Rattle.rsl_book.specs.RuledBook.{RuledBook}
use Rattle.rsl_event.specs.declared.event.Decision.{Decision}
use Rattle.rsl_shard.specs.Restep.{AreBooks, new_books, restep}
use Rattle.rsl_shard.specs.Journal.{IsJournal}
use Rattle.rsl_shard.specs.Setup.{Setup, setup_of}
use Rattle.rsl_shard.specs.declared.line.Line.{Line}
use Rattle.rsl_shard.specs.declared.moved.Move.{Move}

pub record ShardSeen : Type 0 where
  pub setup : Setup
  pub first : ℕ
  pub opening : List RuledBook
  pub lines : List Line

-- the books of a shard
abbrev pub books_of : ShardSeen → List RuledBook
books_of shard = restep shard.setup shard.opening shard.lines

-- the lines that were handed out and those of the journal
abbrev pub total_of : ShardSeen → ℕ
total_of shard = shard.first + length shard.lines

-- a shard of new books, with no lines
abbrev pub new_shard : Configuration → (shard : ℕ) → ShardSeen
new_shard config shard =
    record {
      setup = setup_of config shard;
      first = 0;
      opening = new_books config shard;
      lines = [];
    }

-- a shard with another line
abbrev pub with_line : ShardSeen → Move → Decision → ShardSeen
with_line shard moved decision = record {
  setup = shard.setup;
  first = shard.first;
  opening = shard.opening;
  lines = shard.lines ++ record { moved = moved; decision = decision } ∷ [];
}

-- a shard whose journal was handed out: it goes on from its books
abbrev pub cut_off : ShardSeen → ShardSeen
cut_off shard =
    record { setup = shard.setup; first = total_of shard; opening = books_of shard; lines = [] }

-- The invariant of every shard: its journal is one, its books are those of its accounts and none
-- holds more than its limit, and its lines number less than 2^64.
pub record IsShard (shard : ShardSeen) : Type 0 where
  pub journal : IsJournal shard.setup shard.opening shard.lines
  pub books : AreBooks shard.setup (books_of shard)
  pub total : total_of shard < 2 ^ 64
