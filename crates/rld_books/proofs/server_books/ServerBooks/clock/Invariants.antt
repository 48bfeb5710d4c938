use Rattle.rld_books.specs.Clocks.{IsGreatestClock}
use Rattle.rld_books.proofs.server_books.ServerBooks.clock.Given as goal

-- the greatest clock of the accounts that were looked at
abbrev pub invariant-loop-account : goal.invariant-loop-account
invariant-loop-account l = IsGreatestClock l.self l.account l.most
