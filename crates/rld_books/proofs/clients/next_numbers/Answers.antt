use Rattle.std.proofs.Common.{◌∙◌}
use Rattle.rsl_accounts.specs.Configuration.{client_number}
use Rattle.rsl_accounts.specs.declared.client.Client.{Client}
use Rattle.rld_books.proofs.Placing.{one_more}
use Rattle.rld_books.proofs.clients.next_numbers.Goals as goal

pub loop-number-preserved : goal.loop-number-preserved
loop-number-preserved c =
    c.in_ok-push.ensures.items
    ∙ one_more (λ (client : Client). client_number c.args.new.now client.address) c.args.old.now.clients c.loop-number.number c.client_at.result.now c.loop-number.numbers.items _
    c.client_at.ensures.client c.loop-number.invariant c.client.ensures.number
