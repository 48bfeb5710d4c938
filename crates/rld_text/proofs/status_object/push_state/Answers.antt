use Rattle.rld_text.specs.Status.{state_members}
use Rattle.rld_values.proofs.Callers.{written_3}
use Rattle.rld_text.proofs.status_object.push_state.Goals as goal

pub returns : goal.returns
unfolding state_members
returns c =
    written_3 _ _ _ _ _ _ _
    c.in_ok-push_number_member.ensures c.in_ok-push_number_member-2.ensures c.in_ok-push_number_member-3.ensures
