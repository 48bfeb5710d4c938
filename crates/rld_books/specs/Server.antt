-- The books of a server, and what the moves of a log do to them.
--
-- There is one book for each account, in the order of the accounts' numbers. A move comes to every
-- book: an own move steps the account's book and no other, a sweep or a tick steps every book, a
-- stray none.
use Rattle.std.specs.Prelude.{ℕ, ◌+◌, ◌<◌, ◌≤◌, List, [], ◌∷◌, length, map, slice_get, All}
use Rattle.std.specs.Option.{option_map_or}
use Rattle.rsl_accounts.specs.Configuration.{Configuration}
use Rattle.rsl_book.specs.RuledBook.{RuledBook}
use Rattle.rsl_event.specs.Prepared.{IsOfOneAccount}
use Rattle.rsl_event.specs.declared.event.Decision.{Decision}
use Rattle.rsl_event.specs.declared.event.Decision.TheVariants.{Done}
use Rattle.rsl_event.specs.declared.event.Event.{Event}
use Rattle.rsl_session.specs.BookStep.{step}
use Rattle.rsl_shard.specs.Moves.{event_to}
use Rattle.rsl_shard.specs.Restep.{book_of_entry, step_by}
use Rattle.rsl_shard.specs.declared.line.Line.{Line}
use Rattle.rsl_shard.specs.declared.moved.Move.{Move}
use Rattle.rsl_shard.specs.declared.moved.Move.TheVariants.{Own}

-- what a contract sees of the books: each with its account's rules
abbrev pub ServerSeen : Type 0
ServerSeen = List RuledBook

-- new books for a configuration's accounts
abbrev pub new_server : Configuration → List RuledBook
new_server config = map book_of_entry config.accounts

-- the books of the account `first` and of those after it, each stepped by what a move is to its
-- account
unfoldable pub moved_from : (first : ℕ) → Move → List RuledBook → List RuledBook
moved_from first moved [] = []
moved_from first moved (ruled ∷ books) =
    step_by (event_to first moved) ruled ∷ moved_from (first + 1) moved books

-- the books of all accounts after a move
abbrev pub server_after : List RuledBook → Move → List RuledBook
server_after server moved = moved_from 0 moved server

-- the decision on a move: an own move is decided by its account's book
abbrev pub decision_in : List RuledBook → Move → Decision
decision_in server (Own account event) =
    option_map_or (λ (ruled : RuledBook). (step ruled.rules ruled.book event).1)
    (slice_get server account) Done
decision_in server _ = Done

-- the books after moves
unfoldable pub replay : List RuledBook → List Move → List RuledBook
replay server [] = server
replay server (moved ∷ moves) = replay (server_after server moved) moves

-- the journal of moves: each with the decision that the books give at that point
unfoldable pub journal_of : List RuledBook → List Move → List Line
journal_of server [] = []
journal_of server (moved ∷ moves) =
    record { moved = moved; decision = decision_in server moved }
    ∷ journal_of (server_after server moved) moves

-- the decisions of the journal of moves
abbrev pub decisions_of : List RuledBook → List Move → List Decision
decisions_of server moves = map (λ (line : Line). line.decision) (journal_of server moves)

-- an ask, an alive or a stop of an account that is there
pub record IsOwnIn (server : List RuledBook) (account : ℕ) (event : Event) : Type 0 where
  pub there : account < length server
  pub act : IsOfOneAccount event.act

-- a move that the books can make: an own move has to be an ask, an alive or a stop of an account
-- that is there
abbrev pub IsTakenIn : List RuledBook → Move → Type 0
IsTakenIn server (Own account event) = IsOwnIn server account event
IsTakenIn server _ = Unit {0}

abbrev pub AreTakenIn : List RuledBook → List Move → Type 0
AreTakenIn server moves = All (IsTakenIn server) moves

-- The invariant of the books of a server: there are no more than accounts can be.
pub record IsServer (server : List RuledBook) : Type 0 where
  pub few : length server ≤ 16384
