use Rattle.std.proofs.Common.{◌∙◌}
use Rattle.rsl_shard.specs.Restep.{book_of_entry}
use Rattle.rld_books.proofs.Numbered.{one_more}
use Rattle.rld_books.proofs.server_books.ServerBooks.new.Goals as goal

pub loop-account-preserved : goal.loop-account-preserved
loop-account-preserved c =
    c.in_ok-push.ensures.items
    ∙ one_more book_of_entry c.args.config.now.accounts c.loop-account.account c.entry.result.now c.loop-account.list.items _ c.entry.ensures.entry c.loop-account.invariant
    c.in_ok-new.ensures.made
