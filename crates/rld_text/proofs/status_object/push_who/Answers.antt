use Rattle.rld_text.specs.Status.{who_members}
use Rattle.rld_values.proofs.Callers.{written_9}
use Rattle.rld_text.proofs.status_object.push_who.Goals as goal

pub returns : goal.returns
unfolding who_members
returns c =
    written_9 _ _ _ _ _ _ _ _ _ _ _ _ _ _ _ _ _ _ _
    c.in_ok-push_text.ensures c.in_ok-push_text_string.ensures c.in_ok-push_text-2.ensures c.in_ok-push_proof_word.ensures c.in_ok-push_text-3.ensures c.in_ok-push_number_member.ensures c.in_ok-push_number_member-2.ensures c.in_ok-push_member_front.ensures c.in_ok-push_recording.ensures
