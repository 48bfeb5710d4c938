use Rattle.rld_export.specs.Text.{session_object}
use Rattle.rld_values.proofs.Callers.{written_6}
use Rattle.rld_export.proofs.object.push_object.Goals as goal

pub returns : goal.returns
unfolding session_object
returns c =
    written_6 _ _ _ _ _ _ _ _ _ _ _ _ _
    c.in_ok-push_server_members.ensures c.in_ok-push_id.ensures c.in_ok-push_moment.ensures c.in_ok-push_moment-2.ensures c.in_ok-push_end.ensures c.in_ok-push_text.ensures
