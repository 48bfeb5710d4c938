-- The books of a server as they are saved and restored.
use Rattle.std.specs.Prelude.{◌≡◌, ℕ, nat_eq, if◌then◌else◌, List, [], ◌∷◌, length, map, slice_get, Option, Some, None}
use Rattle.std.specs.Option.{option_map, option_or}
use Rattle.rsl_accounts.specs.Configuration.{Configuration}
use Rattle.rsl_accounts.specs.declared.entry.Entry.{Entry}
use Rattle.rsl_book.specs.Restored.{misfit, saved}
use Rattle.rsl_book.specs.declared.restore_fault.RestoreFault.{RestoreFault}
use Rattle.rsl_book.specs.declared.restore_fault.RestoreFault.TheVariants.{TooManyAsks, TooManyStops, TooManyPlaces}
use Rattle.rld_books.specs.declared.fault.ServerFault.{ServerFault}
use Rattle.rld_books.specs.declared.fault.ServerFault.TheVariants.{WrongCount, Misfit, NoMemory}
use Rattle.rsl_book.specs.RuledBook.{RuledBook}
use Rattle.rsl_session.specs.Book.{Book, BookLink}
use Rattle.rsl_shard.specs.Opening.{as_new}
use Rattle.rsl_shard.specs.Rows.{rows_from}
use Rattle.rsl_shard.specs.declared.row.Row.{Row}
use Rattle.rld_books.specs.Server.{new_server}

-- Books of a configuration's accounts, whatever has happened: one of each, with its rules.
abbrev pub IsServerOf : Configuration → List RuledBook → Type 0
IsServerOf config server = map as_new server ≡ new_server config

-- the running books, in the order of the accounts' numbers
abbrev pub saved_server : List RuledBook → List Book
saved_server server = map saved server

-- ---- which books can be put back

-- the first misfit of books with the rules of their accounts
unfoldable pub first_misfit : List Entry → List Book → Option RestoreFault
first_misfit [] books = None
first_misfit (entry ∷ entries) [] = None
first_misfit (entry ∷ entries) (book ∷ books) =
    option_or (misfit entry.rules book) (first_misfit entries books)

-- a misfit of one book as that of all
abbrev pub server_fault : RestoreFault → ServerFault
server_fault TooManyAsks = Misfit TooManyAsks
server_fault TooManyStops = Misfit TooManyStops
server_fault TooManyPlaces = Misfit TooManyPlaces
server_fault _ = NoMemory

-- why books cannot be those of a configuration's accounts: there is not one of each, or one does not
-- fit its account's rules
abbrev pub server_misfit : Configuration → List Book → Option ServerFault
server_misfit config books =
    if nat_eq (length books) (length config.accounts)
    then option_map server_fault (first_misfit config.accounts books)
    else Some WrongCount

-- a book fits its own rules
abbrev pub IsFit : RuledBook → Type 0
IsFit ruled = misfit ruled.rules ruled.book ≡ None

-- ---- what is looked up

-- what the accounts hold, in the same order
abbrev pub rows_in : List RuledBook → List Row
rows_in server = rows_from 0 1 server

-- the book of an account
abbrev pub book_in : List RuledBook → (account : ℕ) → Option RuledBook
book_in server account = slice_get server account

-- the links of an account, in the order in which they opened
abbrev pub links_in : List RuledBook → (account : ℕ) → Option (List BookLink)
links_in server account =
    option_map (λ (ruled : RuledBook). ruled.book.links) (book_in server account)
