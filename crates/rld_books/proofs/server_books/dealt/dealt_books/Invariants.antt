use Rattle.rld_books.proofs.Dealing.{AreDealtTo}
use Rattle.rld_books.proofs.server_books.dealt.dealt_books.Given as goal

-- the books of the accounts that were looked at
abbrev pub invariant-loop-account : goal.invariant-loop-account
invariant-loop-account l = AreDealtTo l.shards l.config l.kept l.account l.books.items
