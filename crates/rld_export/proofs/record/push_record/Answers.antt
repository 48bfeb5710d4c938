use Rattle.rld_export.specs.Text.{session_record}
use Rattle.rld_values.proofs.Callers.{written_8}
use Rattle.rld_export.proofs.record.push_record.Goals as goal

pub returns : goal.returns
unfolding session_record
returns c = λ dates are.
    written_8 _ _ _ _ _ _ _ _ _ _ _ _ _ _ _ _ _
    c.in_ok-push_server.ensures c.in_ok-push_id.ensures c.in_ok-push_text.ensures (c.in_ok-push_date_if.ensures dates are) c.in_ok-push_text-2.ensures (c.in_ok-push_date_if-2.ensures dates are) c.in_ok-push_text-3.ensures (c.in_ok-push_end.ensures dates are)
