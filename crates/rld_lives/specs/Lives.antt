-- Lives of a server. The moves of all lives are one history, which the log keeps; each decision,
-- book and number of places is the session rule's over the account's own events in that history.
use Rattle.std.specs.Prelude.{◌≡◌, ℕ, ◌≤◌, List, ◌++◌, slice_get, take, Some}
use Rattle.rsl_accounts.specs.Configuration.{Configuration}
use Rattle.rsl_accounts.specs.Limits.{IsConfiguration}
use Rattle.rsl_accounts.specs.declared.entry.Entry.{Entry}
use Rattle.rsl_accounts.specs.declared.rules.Rules.{Rules}
use Rattle.rsl_book.specs.RuledBook.{RuledBook}
use Rattle.rsl_event.specs.declared.event.Event.{Event}
use Rattle.rsl_session.specs.Book.{places_in}
use Rattle.rsl_session.specs.BookOf.{book_of}
use Rattle.rsl_session.specs.Rule.{past_of, places_after}
use Rattle.rsl_shard.specs.Moves.{own_in}
use Rattle.rsl_shard.specs.declared.line.Line.{Line}
use Rattle.rsl_shard.specs.declared.moved.Move.{Move}
use Rattle.rsl_shard.specs.declared.moved.Move.TheVariants.{Own}
use Rattle.rsl_steps.specs.Run.{decision_after}
use Rattle.rld_books.specs.Saved.{book_in}
use Rattle.rld_books.specs.Server.{ServerSeen, journal_of, new_server, replay}

-- what the journal of a history says of an account with these rules, and what the books are after
-- it
pub record ObeyTheRule (account : ℕ) (rules : Rules) (lines : List Line) (server : ServerSeen)
    : Type 0 where
  -- each event of its own has the decision that the rule finds by looking back
  pub decided : (n : ℕ) (line : Line) (event : Event) → slice_get lines n ≡ Some line
      → line.moved ≡ Own account event
      → line.decision ≡ decision_after rules (own_in account (take n lines)) event
  -- its book has the clock, the links, the accept number, the kept asks and stops and the over
  -- count of its past
  pub ruled : RuledBook
  pub there : book_in server account ≡ Some ruled
  pub ruled_by : ruled.rules ≡ rules
  pub book : ruled.book ≡ book_of rules (past_of rules (own_in account lines))
  -- so its places are the rule's, and never more than its limit
  pub places : places_in rules ruled.book ≡ places_after rules (own_in account lines)
  pub never_more : (n : ℕ) → places_after rules (own_in account (take n lines)) ≤ rules.places

-- All lives of a server obey the rule, whatever history they left: so do the decisions, the book
-- and the places of each account.
abbrev pub LivesObeyTheRule : Type 0
LivesObeyTheRule =
    (config : Configuration) (account : ℕ) (entry : Entry) (history : List Move)
    → IsConfiguration config → slice_get config.accounts account ≡ Some entry
    → ObeyTheRule account entry.rules (journal_of (new_server config) history)
    (replay (new_server config) history)

-- the books after further moves
abbrev pub BooksGoOn : ServerSeen → (earlier life : List Move) → Type 0
BooksGoOn server earlier life =
    replay server (earlier ++ life) ≡ replay (replay server earlier) life

-- the journal of further moves
abbrev pub JournalGoesOn : ServerSeen → (earlier life : List Move) → Type 0
JournalGoesOn server earlier life =
    journal_of server (earlier ++ life)
    ≡ journal_of server earlier ++ journal_of (replay server earlier) life

-- A life that begins with the books of the earlier lives goes on as if there had been no restart.
abbrev pub RestartsChangeNothing : Type 0
RestartsChangeNothing =
    (server : ServerSeen) (earlier life : List Move)
    → JournalGoesOn server earlier life × BooksGoOn server earlier life
