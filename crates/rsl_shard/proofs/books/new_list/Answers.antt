use Rattle.std.proofs.Common.{arith, ap, sym, ◌∙◌}
use Rattle.rsl_shard.specs.Restep.{new_books}
use Rattle.rsl_shard.proofs.Beginning.{made_more, made_same, new_done}
use Rattle.rsl_shard.proofs.books.new_list.Goals as goal
use Rattle.rsl_shard.proofs.books.new_list.Goals.{then-shard_of-shard+in_ok-new+in_ok-push, else-shard_of-shard}

pub loop-account-preserved : goal.loop-account-preserved
loop-account-preserved c =
    elim c.if-shard_of-shard.branch [
      | then-shard_of-shard+in_ok-new+in_ok-push w ↦
          made_more c.args.config.now c.args.shard c.loop-account.account c.loop-account.books.items c.if-shard_of-shard.books.items
          w.entry.result.now w.in_ok-new.field-0 c.loop-account.invariant w.entry.ensures.entry w.in_ok-new.ensures.made w.in_ok-new.ensures.limit
          (sym c.shard_of.ensures.number ∙ w.if-shard_of-shard.true) (ap (λ books. books.items) w.books-is ∙ w.in_ok-push.ensures.items)
      | else-shard_of-shard w ↦
          made_same c.args.config.now c.args.shard c.loop-account.account c.loop-account.books.items c.if-shard_of-shard.books.items
          c.loop-account.invariant (omega arith) (λ same. w.if-shard_of-shard.false (c.shard_of.ensures.number ∙ same)) (ap (λ books. books.items) w.books-is)
    ]

pub returns-clause-books : goal.returns-clause-books
returns-clause-books c =
    new_done c.args.config.now.settings.shards c.args.shard c.loop-account.account c.loop-account.books.items (new_books c.args.config.now c.args.shard)
    c.args.config.now.accounts (omega arith) c.loop-account.invariant.books_left
