-- Laws of books that are cut to a moment.
use Rattle.std.specs.Prelude.{◌≡◌, ℕ, ◌≤◌, All}
use Rattle.rsl_accounts.specs.declared.rules.Rules.{Rules}
use Rattle.rsl_book.specs.Restored.{misfit}
use Rattle.rsl_session.specs.Book.{Book, BookLink, bundles_in}
use Rattle.rsl_session.specs.declared.kept.KeptAsk.{KeptAsk}
use Rattle.rsl_session.specs.declared.kept.KeptStop.{KeptStop}
use Rattle.rld_books.specs.Cut.{cut_book}

-- no moment of a book is later than this one
pub record IsUpTo (now : ℕ) (book : Book) : Type 0 where
  pub clock : book.clock ≤ now
  pub links : All (λ (link : BookLink). (link.opened ≤ now) × (link.touched ≤ now)) book.links
  pub asks : All (λ (ask : KeptAsk). ask.at ≤ now) book.asks
  pub stops : All (λ (stop : KeptStop). stop.at ≤ now) book.stops

-- no moment of a cut book is later
abbrev pub CutBooksAreUpTo : Type 0
CutBooksAreUpTo = (now : ℕ) (book : Book) → IsUpTo now (cut_book now book)

-- a book without later moments is unchanged
abbrev pub BooksUpToStay : Type 0
BooksUpToStay = (now : ℕ) (book : Book) → IsUpTo now book → cut_book now book ≡ book

-- A cut book holds the same places, and can be restored wherever it could be before.
pub record CutBooksFit : Type 0 where
  pub bundles : (now : ℕ) (book : Book) → bundles_in (cut_book now book).links ≡ bundles_in book.links
  pub misfit : (now : ℕ) (rules : Rules) (book : Book) → misfit rules (cut_book now book) ≡ misfit rules book
