-- What the accounts of a configuration begin with, as the code has it: clients have the numbers of
-- a list.
use Rattle.std.specs.Prelude.{ℕ, List, map, Option}
use Rattle.std.specs.Option.{option_and_then, option_map_or}
use Rattle.rsl_accounts.specs.Configuration.{Configuration, account_number}
use Rattle.rsl_accounts.specs.declared.entry.Entry.{Entry}
use Rattle.rsl_book.specs.RuledBook.{RuledBook}
use Rattle.rsl_session.specs.Book.{Book, new_book}
use Rattle.rld_books.specs.Saved.{book_in}
use Rattle.rld_books.specs.Carried.{carried_book}
use Rattle.rld_books.specs.Numbers.{number_in}

-- what an account begins with
abbrev pub begun_book : List (Option ℕ) → (old : Configuration) → List RuledBook → Entry → Book
begun_book numbers old books entry =
    option_map_or
    (λ (ruled : RuledBook). carried_book (number_in numbers) entry.rules ruled.book)
    (option_and_then (book_in books) (account_number old entry.name)) new_book

-- what every account begins with
abbrev pub begun_by_all : List (Option ℕ) → (old : Configuration) → List RuledBook
    → (new : Configuration) → List Book
begun_by_all numbers old books new = map (begun_book numbers old books) new.accounts
