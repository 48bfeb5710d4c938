-- What is saved of a book, and the book that is restored from it.
use Rattle.std.specs.Prelude.{◌≡◌, length, nat_lt, if◌then◌else◌, Option, Some, None, Result, Ok, Err}
use Rattle.rsl_accounts.specs.declared.rules.Rules.{Rules}
use Rattle.rsl_session.specs.Ask.{KEPT_ASKS}
use Rattle.rsl_session.specs.Book.{Book, places_in}
use Rattle.rsl_session.specs.Closed.{KEPT_STOPS}
use Rattle.rsl_book.specs.RuledBook.{RuledBook}
use Rattle.rsl_book.specs.declared.restore_fault.RestoreFault.{RestoreFault}
use Rattle.rsl_book.specs.declared.restore_fault.RestoreFault.TheVariants.{TooManyAsks, TooManyStops, TooManyPlaces}

-- the running book alone: the rules are the account's
abbrev pub saved : RuledBook → Book
saved ruled = ruled.book

-- why a running book cannot be that of an account with these rules: the first of these reasons
unfoldable pub misfit : Rules → Book → Option RestoreFault
misfit rules book =
    if nat_lt KEPT_ASKS (length book.asks) then Some TooManyAsks
    else if nat_lt KEPT_STOPS (length book.stops) then Some TooManyStops
    else if nat_lt rules.places (places_in rules book) then Some TooManyPlaces
    else None

-- a running book restored under these rules, unless it does not fit them
abbrev pub put_back : Rules → Book → Option RestoreFault → Result RuledBook RestoreFault
put_back rules book None = Ok (record { rules = rules; book = book })
put_back rules book (Some fault) = Err fault

abbrev pub restored : Rules → Book → Result RuledBook RestoreFault
restored rules book = put_back rules book (misfit rules book)

-- a book is restored from what was saved of it
abbrev pub SavedIsPutBack : Type 0
SavedIsPutBack =
    (ruled : RuledBook) → misfit ruled.rules ruled.book ≡ None
    → restored ruled.rules (saved ruled) ≡ Ok ruled

-- a restored book is saved as what it was restored from
abbrev pub PutBackIsSaved : Type 0
PutBackIsSaved =
    (rules : Rules) (book : Book) (ruled : RuledBook) → restored rules book ≡ Ok ruled
    → saved ruled ≡ book
