-- Blank books.
use Rattle.std.proofs.Common.{◌≡◌, ℕ, Option, Some, None, List, [], ◌∷◌, map, set, refl}
use Rattle.std.specs.Prelude.{IfSome}
use Rattle.std.proofs.lemmas.List.Elements.{All-cons, All-nil, All-set}
use Rattle.rsl_accounts.specs.declared.entry.Entry.{Entry}
use Rattle.rsl_book.specs.RuledBook.{RuledBook}
use Rattle.rsl_shard.specs.Opening.{as_new}
use Rattle.rld_books.specs.Blank.{AreBlank, blank_book}

IsBlank : Option RuledBook → Type 0
IsBlank book = IfSome book (λ (ruled : RuledBook). ruled ≡ as_new ruled)

-- those that were made for accounts are
pub made_blank : (entries : List Entry) → AreBlank (map blank_book entries)
unfolding IsBlank
made_blank [] = All-nil IsBlank
made_blank (entry ∷ entries) = All-cons IsBlank (blank_book entry) (map blank_book entries) refl (made_blank entries)

-- and stay so where one is taken out
pub taken_blank : (books : List (Option RuledBook)) (at : ℕ) (slot : Option RuledBook) → slot ≡ None → AreBlank books → AreBlank (set books at slot)
unfolding IsBlank
taken_blank books at None is all = All-set IsBlank books at None tt all
taken_blank books at (Some book) is all = absurd (cc is)
