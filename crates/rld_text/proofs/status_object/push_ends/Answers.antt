use Rattle.rld_text.specs.Status.{ends_members}
use Rattle.rld_values.proofs.Callers.{written_3}
use Rattle.rld_text.proofs.status_object.push_ends.Goals as goal

pub returns : goal.returns
unfolding ends_members
returns c =
    written_3 _ _ _ _ _ _ _
    c.in_ok-push_gate.ensures c.in_ok-push_gate-2.ensures c.in_ok-push_gate-3.ensures
