use Rattle.std.proofs.Common.{◌≡◌, None, All, List, map, arith, ap, subst, ◌∙◌}
use Rattle.std.proofs.lemmas.List.{map_push, take_all}
use Rattle.rsl_accounts.specs.declared.entry.Entry.{Entry}
use Rattle.rsl_book.specs.Restored.{misfit}
use Rattle.rsl_session.specs.Saved.{saved_book}
use Rattle.rld_books.specs.Begun.{begun_book}
use Rattle.rld_books.proofs.Misfits.{begun_can_be_put_back, one_more_of}
use Rattle.rld_books.proofs.Numbered.{one_more}
use Rattle.rld_books.proofs.admission.Passage.all_books.Goals as goal

pub loop-account-preserved : goal.loop-account-preserved
loop-account-preserved c = record {
  begun = ap (map saved_book) c.in_ok-push.ensures.items ∙ map_push saved_book c.loop-account.kept.items c.in_ok-book_of.field-0
      ∙ one_more (begun_book c.args.self.now.numbers.now c.args.self.now.old.now c.args.self.now.books.now) c.args.self.now.new.now.accounts c.loop-account.account c.entry.result.now
      (map saved_book c.loop-account.kept.items) (saved_book c.in_ok-book_of.field-0) c.entry.ensures.entry c.loop-account.invariant.begun c.in_ok-book_of.ensures.begun;
  fit = one_more_of (λ (entry : Entry). misfit entry.rules (begun_book c.args.self.now.numbers.now c.args.self.now.old.now c.args.self.now.books.now entry) ≡ None)
      c.args.self.now.new.now.accounts c.loop-account.account c.entry.result.now c.entry.ensures.entry c.book_of.ensures.fits c.loop-account.invariant.fit;
}

pub returns-clause-fit : goal.returns-clause-fit
returns-clause-fit c =
    begun_can_be_put_back c.args.self.now.numbers.now c.args.self.now.old.now c.args.self.now.books.now c.args.self.now.new.now
    (subst (λ (l : List Entry). All (λ (entry : Entry). misfit entry.rules (begun_book c.args.self.now.numbers.now c.args.self.now.old.now c.args.self.now.books.now entry) ≡ None) l)
    (take_all c.loop-account.account c.args.self.now.new.now.accounts (omega arith)) c.loop-account.invariant.fit)
