-- The count over every history between two changes of the accounts, whatever books it opened with. In
-- the first the rule finds all by looking back (`specs/Lives.antt`). A later one opens with books of
-- the one before it, and nothing looks back beyond them: there each account goes on with the book that
-- it began with.
use Rattle.std.specs.Prelude.{◌≡◌, ℕ, List, slice_get, take, Option, Some}
use Rattle.rsl_accounts.specs.Configuration.{Configuration}
use Rattle.rsl_accounts.specs.Limits.{IsConfiguration}
use Rattle.rsl_accounts.specs.declared.entry.Entry.{Entry}
use Rattle.rsl_accounts.specs.declared.rules.Rules.{Rules}
use Rattle.rsl_book.specs.RuledBook.{IsWithinLimit, RuledBook}
use Rattle.rsl_event.specs.declared.event.Event.{Event}
use Rattle.rsl_session.specs.BookStep.{book_after, step}
use Rattle.rsl_shard.specs.Moves.{own_in}
use Rattle.rsl_shard.specs.declared.line.Line.{Line}
use Rattle.rsl_shard.specs.declared.moved.Move.{Move}
use Rattle.rsl_shard.specs.declared.moved.Move.TheVariants.{Own}
use Rattle.rld_books.specs.Admitted.{AreAdmitted}
use Rattle.rld_books.specs.Cut.{cut_server}
use Rattle.rld_books.specs.Saved.{book_in}
use Rattle.rld_books.specs.Server.{ServerSeen, journal_of, new_server, replay}
use Rattle.rld_spelling.specs.TableSpelled.{TableSeen}
use Rattle.rld_spelling.specs.Tables.{table_of}

-- a book, if there is one, of an account with these rules, with no more places than they allow
pub record IsFoundWithin (rules : Rules) (found : Option RuledBook) : Type 0 where
  pub ruled : RuledBook
  pub there : found ≡ Some ruled
  pub ruled_by : ruled.rules ≡ rules
  pub within : IsWithinLimit ruled

-- each account has a book under its own rules, and no more places than these allow
pub record AreWithinLimits (config : Configuration) (server : ServerSeen) : Type 0 where
  pub each : (account : ℕ) (entry : Entry) → slice_get config.accounts account ≡ Some entry
      → IsFoundWithin entry.rules (book_in server account)

-- what an account's own events among lines make of the book that it began with
abbrev pub after_own : (account : ℕ) → (begun : RuledBook) → List Line → RuledBook
after_own account begun lines = record {
  rules = begun.rules;
  book = book_after begun.rules begun.book (own_in account lines);
}

-- What the journal of a history and its books say of an account that began with a book.
pub record GoesOnWithin (account : ℕ) (begun : RuledBook) (lines : List Line)
    (server : ServerSeen) : Type 0 where
  -- each event of its own has the decision of its book at that point
  pub decided : (n : ℕ) (line : Line) (event : Event) → slice_get lines n ≡ Some line
      → line.moved ≡ Own account event
      → line.decision ≡ (step begun.rules (after_own account begun (take n lines)).book event).1
  -- its book is what its own events have made of the one that it began with
  pub there : book_in server account ≡ Some (after_own account begun lines)
  -- its places never exceed its limit
  pub never_more : (n : ℕ) → IsWithinLimit (after_own account begun (take n lines))

-- what the moves of a history that opened with these books leave within limits
pub record StaysWithinLimits (config : Configuration) (opening : ServerSeen)
    (moves : List Move) : Type 0 where
  pub each : (account : ℕ) (entry : Entry) (begun : RuledBook)
      → slice_get config.accounts account ≡ Some entry → book_in opening account ≡ Some begun
      → GoesOnWithin account begun (journal_of opening moves) (replay opening moves)
  pub after : AreWithinLimits config (replay opening moves)

-- The count holds in every history that opened within limits, whatever its moves.
abbrev pub HistoriesStayWithinLimits : Type 0
HistoriesStayWithinLimits =
    (config : Configuration) (opening : ServerSeen) (moves : List Move)
    → IsConfiguration config → AreWithinLimits config opening
    → StaysWithinLimits config opening moves

-- Every history opens within limits: the first with new books, one with another account file with the
-- books admitted from any others, and one that a rebase begins with such books, cut to a moment.
pub record HistoriesOpenWithinLimits : Type 0 where
  pub new : (config : Configuration) → IsConfiguration config
      → AreWithinLimits config (new_server config)
  pub admitted : (old : TableSeen) (config : Configuration)
      (books opening : ServerSeen) → IsConfiguration config
      → AreAdmitted old books (table_of config) opening → AreWithinLimits config opening
  pub cut : (now : ℕ) (config : Configuration) (books : ServerSeen)
      → AreWithinLimits config books → AreWithinLimits config (cut_server now books)
