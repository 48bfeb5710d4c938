use Rattle.rsl_service.proofs.Refusing.{stopped_at}
use Rattle.rsl_service.proofs.receiver.Receiver.answer.Goals as goal

pub returns-in-Err-apply-clause-unanswered : goal.returns-in-Err-apply-clause-unanswered
returns-in-Err-apply-clause-unanswered g c =
    stopped_at _ _ _ c.now-moment.result c.in-Ok.prepared.meaning c.in-Err-apply.field-0 _ _ _ _
    c.in-Ok.ensures.meaning c.now-moment.ensures.shown c.in-Err-apply.ensures.err
    c.in-Err-apply.ensures.fewer
