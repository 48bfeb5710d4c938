-- Blank books, which were made for accounts and have had no event.
use Rattle.std.specs.Prelude.{◌≡◌, List, All, IfSome, Option, Some}
use Rattle.rsl_accounts.specs.declared.entry.Entry.{Entry}
use Rattle.rsl_book.specs.RuledBook.{RuledBook}
use Rattle.rsl_session.specs.Book.{new_book}
use Rattle.rsl_shard.specs.Opening.{as_new}

-- the blank book of an account
abbrev pub blank_book : Entry → Option RuledBook
blank_book entry = Some (record { rules = entry.rules; book = new_book })

-- each of these books has had no event
abbrev pub AreBlank : List (Option RuledBook) → Type 0
AreBlank books = All (λ (book : Option RuledBook). IfSome book (λ (ruled : RuledBook). ruled ≡ as_new ruled)) books
