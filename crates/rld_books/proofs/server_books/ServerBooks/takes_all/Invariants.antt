use Rattle.std.proofs.Common.{take, All}
use Rattle.rld_books.specs.Server.{IsTakenIn}
use Rattle.rld_books.proofs.server_books.ServerBooks.takes_all.Given as goal

abbrev pub invariant-loop-moved : goal.invariant-loop-moved
invariant-loop-moved l = All (IsTakenIn l.self) (take l.moved-index l.moves)
