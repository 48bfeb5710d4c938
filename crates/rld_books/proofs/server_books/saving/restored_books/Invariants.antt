use Rattle.std.proofs.Common.{map}
use Rattle.rsl_session.specs.Saved.{saved_book}
use Rattle.rld_books.proofs.Misfits.{FitsUpTo}
use Rattle.rld_books.proofs.Saving.{ArePutBack}
use Rattle.rld_books.proofs.server_books.saving.restored_books.Given as goal

-- the books of the accounts that were looked at
abbrev pub invariant-loop-account : goal.invariant-loop-account
invariant-loop-account l = record {
  back : ArePutBack l.config l.kept l.account l.books.items;
  fit : FitsUpTo l.config.accounts (map saved_book l.kept) l.account;
}
