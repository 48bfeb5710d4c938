-- The books that a journal begins with, given what they have become: new books are not kept, since
-- they follow from the rules of those.
use Rattle.std.specs.Prelude.{List, map}
use Rattle.rsl_book.specs.RuledBook.{RuledBook}
use Rattle.rsl_session.specs.Book.{new_book}
use Rattle.rsl_shard.specs.declared.opening.Opening.{Opening}
use Rattle.rsl_shard.specs.declared.opening.Opening.TheVariants.{New, Kept}

-- the new book of the account whose book this is
abbrev pub as_new : RuledBook → RuledBook
as_new ruled = record { rules = ruled.rules; book = new_book }

-- the books that a journal began with, if they have become these
abbrev pub opening_of : Opening → (become : List RuledBook) → List RuledBook
opening_of New become = map as_new become
opening_of (Kept books) become = books.items
