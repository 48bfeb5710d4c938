use Rattle.rld_text.specs.Links.{nas_address_member}
use Rattle.rld_values.proofs.Callers.{written_3}
use Rattle.rld_text.proofs.link_objects.push_nas_address.Goals as goal

pub returns : goal.returns
unfolding nas_address_member
returns c =
    written_3 _ _ _ _ _ _ _
    c.in_ok-push_text.ensures c.in_ok-push_hex.ensures c.in_ok-push_text-2.ensures
