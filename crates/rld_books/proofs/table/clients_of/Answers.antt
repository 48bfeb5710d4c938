use Rattle.std.proofs.Common.{refl, ◌∙◌}
use Rattle.rld_spelling.specs.Tables.{client_row}
use Rattle.rld_books.proofs.Numbered.{one_more}
use Rattle.rld_books.proofs.table.clients_of.Goals as goal

pub loop-number-preserved : goal.loop-number-preserved
loop-number-preserved c =
    c.in_ok-push.ensures.items
    ∙ one_more client_row c.args.config.now.clients c.loop-number.number c.client_at.result.now c.loop-number.clients.items _ c.client_at.ensures.client c.loop-number.invariant refl
