use Rattle.std.proofs.lemmas.Result.{IfOk-weaker}
use Rattle.rld_start.proofs.After.{after_all}
use Rattle.rld_start.proofs.starting.follow.Goals as goal

pub returns-in-Former-clause-after : goal.returns-in-Former-clause-after
returns-in-Former-clause-after g c =
    IfOk-weaker c.upgrade.result _ _
    (λ started is. after_all c.args.names.now c.args.begun.generation started.store.header c.requires is)
    c.upgrade.ensures.number

pub returns-in-Numbered-clause-after : goal.returns-in-Numbered-clause-after
returns-in-Numbered-clause-after g c =
    IfOk-weaker c.follow_numbered.result _ _
    (λ started is. after_all c.args.names.now c.args.begun.generation started.store.header c.requires is)
    c.follow_numbered.ensures.number
