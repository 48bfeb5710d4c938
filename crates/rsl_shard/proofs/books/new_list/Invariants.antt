use Rattle.rsl_shard.proofs.Beginning.{AreMade}
use Rattle.rsl_shard.proofs.books.new_list.Given as goal

abbrev pub invariant-loop-account : goal.invariant-loop-account
invariant-loop-account l = AreMade l.config l.shard l.account l.books.items
