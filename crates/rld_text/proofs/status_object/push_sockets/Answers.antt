use Rattle.rld_text.specs.Status.{socket_members}
use Rattle.rld_values.proofs.Callers.{written_2}
use Rattle.rld_text.proofs.status_object.push_sockets.Goals as goal

pub returns : goal.returns
unfolding socket_members
returns c =
    written_2 _ _ _ _ _
    c.in_ok-push_number_member.ensures c.in_ok-push_number_member-2.ensures
