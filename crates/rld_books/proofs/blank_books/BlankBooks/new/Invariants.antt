use Rattle.std.proofs.Common.{◌≡◌, map, take}
use Rattle.rld_books.specs.Blank.{blank_book}
use Rattle.rld_books.proofs.blank_books.BlankBooks.new.Given as goal

abbrev pub invariant-loop-account : goal.invariant-loop-account
invariant-loop-account l = l.list.items ≡ map blank_book (take l.account l.config.accounts)
