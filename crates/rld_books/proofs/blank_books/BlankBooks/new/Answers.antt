use Rattle.std.proofs.Common.{Option, Some, List, take, sym, ap, subst, ◌∙◌}
use Rattle.rsl_book.specs.RuledBook.{RuledBook}
use Rattle.rld_books.specs.Blank.{AreBlank, blank_book}
use Rattle.rld_books.proofs.Blanking.{made_blank}
use Rattle.rld_books.proofs.Numbered.{one_more}
use Rattle.rld_books.proofs.blank_books.BlankBooks.new.Goals as goal

pub loop-account-preserved : goal.loop-account-preserved
loop-account-preserved c =
    c.in_ok-push.ensures.items
    ∙ one_more blank_book c.args.config.now.accounts c.loop-account.account c.entry-entry.result.now c.loop-account.list.items _ c.entry-entry.ensures.entry c.loop-account.invariant
    (ap (λ (book : RuledBook). Some book) c.in_ok-book.ensures.made)

pub invariant_of-result : goal.invariant_of-result
invariant_of-result c =
    subst (λ (l : List (Option RuledBook)). AreBlank l) (sym c.loop-account.invariant) (made_blank (take c.loop-account.account c.args.config.now.accounts))
