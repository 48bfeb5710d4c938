use Rattle.rld_books.proofs.Saving.{of_is_server}
use Rattle.rld_books.proofs.server_books.ServerBooks.restore_in.Goals as goal

pub invariant_of-result : goal.invariant_of-result
invariant_of-result c = of_is_server c.args.config.now c.in_ok-list.list.items c.accounts-accounts.ensures.limits c.in_ok-list.ensures.server
