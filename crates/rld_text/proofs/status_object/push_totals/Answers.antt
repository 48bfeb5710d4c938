use Rattle.rld_text.specs.Status.{totals_members}
use Rattle.rld_values.proofs.Callers.{written_7}
use Rattle.rld_text.proofs.status_object.push_totals.Goals as goal

pub returns : goal.returns
unfolding totals_members
returns c =
    written_7 _ _ _ _ _ _ _ _ _ _ _ _ _ _ _
    c.in_ok-push_number_member.ensures c.in_ok-push_number_member-2.ensures c.in_ok-push_number_member-3.ensures c.in_ok-push_number_member-4.ensures c.in_ok-push_number_member-5.ensures c.in_ok-push_number_member-6.ensures c.in_ok-push_number_member-7.ensures
