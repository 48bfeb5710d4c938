use Rattle.rld_ask.specs.Reply.{member_front}
use Rattle.rld_ask.proofs.Fronts.{front_written}
use Rattle.rld_ask.proofs.reply.push_member_front.Goals as goal

pub returns : goal.returns
unfolding member_front
returns c =
    front_written _ _ _ _ _ _ _ _ _
    c.as_slice.ensures c.operator.ensures
    c.in_ok-push_member_name.ensures c.in_ok-push_text.ensures c.in_ok-push_text-2.ensures
