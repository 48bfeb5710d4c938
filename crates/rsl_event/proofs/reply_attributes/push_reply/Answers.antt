use Rattle.rsl_event.proofs.ReplyAttributeLaws.{more_twice}
use Rattle.rsl_event.proofs.reply_attributes.push_reply.Goals as goal

pub returns-clause-written : goal.returns-clause-written
returns-clause-written c =
    more_twice c.args.draft.now _ _ _ _ _ c.push_octets.ensures.written c.push_octets-2.ensures.written c.parts.ensures
