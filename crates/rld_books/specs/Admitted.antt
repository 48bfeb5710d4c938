-- The books that go on when other accounts take the place of the present ones, carried over by the names of accounts and
-- the addresses of clients.
use Rattle.std.specs.Prelude.{◌≡◌, ℕ, List, map, position, slice_get, Option, Some}
use Rattle.std.specs.Option.{option_and_then, option_map_or}
use Rattle.rsl_accounts.specs.Configuration.{same_octets}
use Rattle.rsl_book.specs.RuledBook.{RuledBook}
use Rattle.rsl_session.specs.Book.{Book, new_book}
use Rattle.rld_books.specs.Saved.{book_in}
use Rattle.rld_spelling.specs.TableSpelled.{TableSeen}
use Rattle.rld_spelling.specs.declared.table.TableAccount.{TableAccount}
use Rattle.rld_spelling.specs.declared.table.TableClient.{TableClient}
use Rattle.rld_books.specs.Carried.{Next, carried_book}

-- the addresses of a table's clients
abbrev pub addresses_of : TableSeen → List (List ℕ)
addresses_of table = map (λ (client : TableClient). client.address) table.clients

-- the number of the client with an address, and of the account with a name, in a table
abbrev pub client_with : TableSeen → (address : List ℕ) → Option ℕ
client_with table address =
    position (λ (client : TableClient). same_octets address client.address) table.clients

abbrev pub account_with : TableSeen → (name : List ℕ) → Option ℕ
account_with table name =
    position (λ (account : TableAccount). same_octets name account.name) table.accounts

-- the number of a client after the change: that of its address
abbrev pub next_number : (old new : TableSeen) → Next
next_number old new client =
    option_and_then (λ (row : TableClient). client_with new row.address) (slice_get old.clients client)

-- what an account begins with: the book of its name, carried over, or a new book if there was none
abbrev pub admitted_book : (old : TableSeen) → (books : List RuledBook) → (new : TableSeen)
    → TableAccount → Book
admitted_book old books new account =
    option_map_or
    (λ (ruled : RuledBook). carried_book (next_number old new) account.rules ruled.book)
    (option_and_then (book_in books) (account_with old account.name)) new_book

-- Books admitted from those of another table: each account has such a book, under
-- its own rules.
pub record AreAdmitted (old : TableSeen) (books : List RuledBook) (new : TableSeen)
    (admitted : List RuledBook) : Type 0 where
  pub each : (number : ℕ) (account : TableAccount) → slice_get new.accounts number ≡ Some account
      → book_in admitted number
      ≡ Some (record { rules = account.rules; book = admitted_book old books new account })
