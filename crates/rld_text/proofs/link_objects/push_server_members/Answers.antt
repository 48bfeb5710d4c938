use Rattle.rld_text.specs.Links.{server_members}
use Rattle.rld_values.proofs.Callers.{written_6}
use Rattle.rld_text.proofs.link_objects.push_server_members.Goals as goal

pub returns : goal.returns
unfolding server_members
returns c =
    written_6 _ _ _ _ _ _ _ _ _ _ _ _ _
    c.in_ok-push_text.ensures c.in_ok-push_string.ensures c.in_ok-push_text-2.ensures c.in_ok-push_dotted.ensures c.in_ok-push_text-3.ensures c.in_ok-push_nas.ensures
