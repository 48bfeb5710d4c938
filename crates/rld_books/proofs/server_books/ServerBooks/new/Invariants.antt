use Rattle.std.proofs.Common.{◌≡◌, map, take}
use Rattle.rsl_shard.specs.Restep.{book_of_entry}
use Rattle.rld_books.proofs.server_books.ServerBooks.new.Given as goal

abbrev pub invariant-loop-account : goal.invariant-loop-account
invariant-loop-account l = l.list.items ≡ map book_of_entry (take l.account l.config.accounts)
