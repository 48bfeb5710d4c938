-- The clocks of the books of a server.
use Rattle.std.specs.Prelude.{◌≡◌, ◌⊎◌, ℕ, ◌<◌, ◌≤◌, List}
use Rattle.std.specs.Option.{option_map_or}
use Rattle.rsl_book.specs.RuledBook.{RuledBook}
use Rattle.rld_books.specs.Saved.{book_in}

-- the clock of an account's book, or 0 if there is no such account
abbrev pub clock_in : List RuledBook → (account : ℕ) → ℕ
clock_in server account =
    option_map_or (λ (ruled : RuledBook). ruled.book.clock) (book_in server account) 0

-- the greatest clock of the first `accounts` accounts, or 0 if none has had an event
pub record IsGreatestClock (server : List RuledBook) (accounts clock : ℕ) : Type 0 where
  pub none_greater : (account : ℕ) → account < accounts → clock_in server account ≤ clock
  pub one_has_it : (clock ≡ 0) ⊎ ((account : ℕ) × (account < accounts × clock_in server account ≡ clock))
