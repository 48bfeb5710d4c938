use Rattle.rld_spelling.specs.Tables.{client_row}
use Rattle.rld_start.proofs.Alike.{row_more}
use Rattle.rld_start.proofs.changing.has_same_clients.Goals as goal

pub loop-number-preserved : goal.loop-number-preserved
loop-number-preserved c =
    row_more client_row c.args.old.now.clients c.args.new.now.clients c.loop-number.number c.client_at.result.now c.client_at-in-loop-number.result.now
    c.client_at.ensures.client c.client_at-in-loop-number.ensures.client c.loop-number.invariant (c.is_same_client.ensures.0 c.if-not-is_same_client.false)
