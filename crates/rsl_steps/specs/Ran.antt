-- The shards of a run after some steps: the journal of each has the moves that the steps are to it,
-- and so each account's book is the one that its own events make of a new book.
use Rattle.std.specs.Prelude.{◌≡◌, ℕ, ◌%◌, ◌≤◌, List, length, map, slice_get, take, Option, Some, None}
use Rattle.rsl_accounts.specs.Configuration.{Configuration}
use Rattle.rsl_accounts.specs.declared.rules.Rules.{Rules}
use Rattle.rsl_book.specs.RuledBook.{RuledBook}
use Rattle.rsl_event.specs.declared.event.Event.{Event}
use Rattle.rsl_session.specs.Book.{new_book, places_in}
use Rattle.rsl_session.specs.BookOf.{book_of}
use Rattle.rsl_session.specs.BookStep.{book_after}
use Rattle.rsl_session.specs.Rule.{past_of, places_after}
use Rattle.rsl_shard.specs.Restep.{book_at, new_books}
use Rattle.rsl_shard.specs.Seen.{ShardSeen, books_of}
use Rattle.rsl_shard.specs.Setup.{setup_of}
use Rattle.rsl_shard.specs.declared.line.Line.{Line}
use Rattle.rsl_steps.specs.Moves.{shard_moves}
use Rattle.rsl_steps.specs.declared.step.Step.{Step}

-- a shard whose books began new, whose journal was never cut, and whose lines are the moves of the
-- steps
pub record HasMoved (config : Configuration) (boot : ℕ) (before : List Step) (shard : ℕ)
    (seen : ShardSeen) : Type 0 where
  pub setup : seen.setup ≡ setup_of config shard
  pub opening : seen.opening ≡ new_books config shard
  pub first : seen.first ≡ 0
  pub moves : map (λ (line : Line). line.moved) seen.lines ≡ shard_moves config boot shard before

-- there is such a shard for each number
pub record AreShards (config : Configuration) (boot : ℕ) (before : List Step)
    (shards : List ShardSeen) : Type 0 where
  pub count : length shards ≡ config.settings.shards
  pub each : (number : ℕ) (seen : ShardSeen) → slice_get shards number ≡ Some seen
      → HasMoved config boot before number seen

-- the book of an account, which is in its own shard
abbrev pub book_in_shard : Option ShardSeen → (account : ℕ) → Option RuledBook
book_in_shard None account = None
book_in_shard (Some seen) account = book_at seen.setup (books_of seen) account

abbrev pub book_among : Configuration → List ShardSeen → (account : ℕ) → Option RuledBook
book_among config shards account =
    book_in_shard (slice_get shards (account % config.settings.shards)) account

-- the book of an account with these rules and own events
pub record IsBookOf (rules : Rules) (events : List Event) (ruled : RuledBook) : Type 0 where
  pub ruled_by : ruled.rules ≡ rules
  -- it is the one that the events make of a new book, and has what looking back over them finds
  pub stepped : ruled.book ≡ book_after rules new_book events
  pub looked_back : ruled.book ≡ book_of rules (past_of rules events)
  -- the places that it holds are those of the session rule, and at most the account's
  pub places : places_in ruled.rules ruled.book ≡ places_after rules events
  pub limit : places_in ruled.rules ruled.book ≤ rules.places
  -- and so after each of the events, not only after the last
  pub never_more : (n : ℕ) → places_after rules (take n events) ≤ rules.places

-- the account has such a book among the shards
pub record HasBookOf (config : Configuration) (account : ℕ) (rules : Rules) (events : List Event)
    (shards : List ShardSeen) : Type 0 where
  pub ruled : RuledBook
  pub there : book_among config shards account ≡ Some ruled
  pub book : IsBookOf rules events ruled
