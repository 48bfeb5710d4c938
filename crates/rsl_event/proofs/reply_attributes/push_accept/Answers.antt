use Rattle.std.proofs.Common.{refl}
use Rattle.rsl_event.proofs.ReplyAttributeLaws.{more_twice}
use Rattle.rsl_event.proofs.reply_attributes.push_accept.Goals as goal

pub returns-clause-written : goal.returns-clause-written
returns-clause-written c =
    more_twice c.args.draft.now _ _ _ _ _ c.push_set.ensures.written c.push_reply.ensures.written refl
