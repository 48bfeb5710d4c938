use Rattle.std.proofs.Common.{◌≡◌, None, All, map, take}
use Rattle.rsl_accounts.specs.declared.entry.Entry.{Entry}
use Rattle.rsl_book.specs.Restored.{misfit}
use Rattle.rsl_session.specs.Saved.{saved_book}
use Rattle.rld_books.specs.Begun.{begun_book}
use Rattle.rld_books.proofs.admission.Passage.all_books.Given as goal

-- what the accounts that were looked at begin with
abbrev pub invariant-loop-account : goal.invariant-loop-account
invariant-loop-account l = record {
  begun : map saved_book l.kept.items ≡ map (begun_book l.self.numbers.now l.self.old.now l.self.books.now) (take l.account l.self.new.now.accounts);
  fit : All (λ (entry : Entry). misfit entry.rules (begun_book l.self.numbers.now l.self.old.now l.self.books.now entry) ≡ None)
      (take l.account l.self.new.now.accounts);
}
