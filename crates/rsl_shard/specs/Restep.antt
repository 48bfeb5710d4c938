-- The books of a shard, and what moves make of them.
--
-- The books are in the order of their accounts: the first is that of the account with the shard's
-- number, and each next account's number is higher by the number of shards. A move steps each book
-- by what it is to the book's account: an own move that of its account alone, a sweep or a tick
-- every one, a stray none.
use Rattle.std.specs.Prelude.{◌≡◌, ℕ, ◌+◌, ◌*◌, ◌<◌, ◌==◌, ◌%◌, List, [], ◌∷◌, length, All, Option, Some, None, if◌then◌else◌}
use Rattle.std.specs.Option.{option_map, option_map_or}
use Rattle.rsl_accounts.specs.Configuration.{Configuration}
use Rattle.rsl_accounts.specs.declared.entry.Entry.{Entry}
use Rattle.rsl_book.specs.RuledBook.{IsWithinLimit, RuledBook}
use Rattle.rsl_event.specs.declared.event.Decision.{Decision}
use Rattle.rsl_event.specs.declared.event.Decision.TheVariants.{Done}
use Rattle.rsl_event.specs.declared.event.Event.{Event}
use Rattle.rsl_session.specs.Book.{new_book}
use Rattle.rsl_session.specs.BookStep.{step}
use Rattle.rsl_shard.specs.Moves.{event_to}
use Rattle.rsl_shard.specs.Setup.{IsSetup, Setup, setup_of}
use Rattle.rsl_shard.specs.declared.line.Line.{Line}
use Rattle.rsl_shard.specs.declared.moved.Move.{Move}
use Rattle.rsl_shard.specs.declared.moved.Move.TheVariants.{Own}

-- a book after an event, if there is one
abbrev pub step_by : Option Event → RuledBook → RuledBook
step_by None ruled = ruled
step_by (Some event) ruled =
    record { rules = ruled.rules; book = (step ruled.rules ruled.book event).0 }

-- the books of the account `first` and of those after it in its shard, after a move
unfoldable pub moved_from : (first shards : ℕ) → Move → List RuledBook → List RuledBook
moved_from first shards moved [] = []
moved_from first shards moved (ruled ∷ books) =
    step_by (event_to first moved) ruled ∷ moved_from (first + shards) shards moved books

-- the book of an account among those of `first` and of the accounts after it in its shard
unfoldable pub book_from : (first shards : ℕ) → List RuledBook → (account : ℕ) → Option RuledBook
book_from first shards [] account = None
book_from first shards (ruled ∷ books) account =
    if first == account then Some ruled else book_from (first + shards) shards books account

-- the book of an account of a shard
abbrev pub book_at : Setup → List RuledBook → (account : ℕ) → Option RuledBook
book_at setup books account = book_from setup.shard setup.shards books account

-- the books of a shard after a move
abbrev pub books_after : Setup → List RuledBook → Move → List RuledBook
books_after setup books moved = moved_from setup.shard setup.shards moved books

-- The books of a shard after a move, account by account.
pub record HaveStepped (setup : Setup) (moved : Move) (old new : List RuledBook) : Type 0 where
  -- each account's book is stepped by what the move is to the account
  pub each : (account : ℕ) → book_at setup new account
      ≡ option_map (step_by (event_to account moved)) (book_at setup old account)
  -- and it is as it was if that is nothing, as for an own move of another account
  pub others : (account : ℕ) → event_to account moved ≡ None
      → book_at setup new account ≡ book_at setup old account

-- the books of a shard after the moves of some lines: their decisions are not used
unfoldable pub restep : Setup → (opening : List RuledBook) → List Line → List RuledBook
restep setup opening [] = opening
restep setup opening (line ∷ lines) = restep setup (books_after setup opening line.moved) lines

-- the decision on a move: an own move is decided by a step of its account's book
abbrev pub decision_by : Setup → List RuledBook → Move → Decision
decision_by setup books (Own account event) =
    option_map_or (λ ruled. (step ruled.rules ruled.book event).1) (book_at setup books account)
    Done
decision_by setup books _ = Done

-- the book of an account that has had no event
abbrev pub book_of_entry : Entry → RuledBook
book_of_entry entry = record { rules = entry.rules; book = new_book }

-- the new books of a shard among those of entries, the first of which has the account number
-- `number`
unfoldable pub new_books_from : (shards shard number : ℕ) → List Entry → List RuledBook
new_books_from shards shard number [] = []
new_books_from shards shard number (entry ∷ entries) =
    if number % shards == shard
    then book_of_entry entry ∷ new_books_from shards shard (number + 1) entries
    else new_books_from shards shard (number + 1) entries

-- the new books of a shard of a configuration
abbrev pub new_books : Configuration → (shard : ℕ) → List RuledBook
new_books config shard = new_books_from config.settings.shards shard 0 config.accounts

-- The invariant of the books of a shard: there is one for each of its accounts, and none holds more
-- than its limit.
pub record AreBooks (setup : Setup) (books : List RuledBook) : Type 0 where
  pub within : IsSetup setup
  pub each : (index : ℕ) → setup.shard + index * setup.shards < setup.accounts
      → index < length books
  pub no_more : (index : ℕ) → index < length books
      → setup.shard + index * setup.shards < setup.accounts
  pub limit : All IsWithinLimit books

-- what a contract sees of the books of a shard
pub record BooksSeen : Type 0 where
  pub setup : Setup
  pub books : List RuledBook

abbrev pub new_books_seen : Configuration → (shard : ℕ) → BooksSeen
new_books_seen config shard =
    record { setup = setup_of config shard; books = new_books config shard }
