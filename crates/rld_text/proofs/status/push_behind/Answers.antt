use Rattle.rld_text.specs.Status.{behind_line}
use Rattle.rld_values.proofs.Callers.{written_3}
use Rattle.rld_text.proofs.status.push_behind.Goals as goal

pub returns : goal.returns
unfolding behind_line
returns c =
    written_3 _ _ _ _ _ _ _
    c.in_ok-push_text.ensures c.in_ok-push_decimal.ensures c.in_ok-push_text-2.ensures
