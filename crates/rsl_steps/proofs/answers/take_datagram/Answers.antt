use Rattle.std.proofs.Common.{ap, ◌∙◌}
use Rattle.rsl_event.specs.Answer.{answer_to, said_to}
use Rattle.rsl_event.specs.declared.meaning_kind.MeaningKind.{MeaningKind}
use Rattle.rsl_wire.specs.Seen.{fields_of}
use Rattle.rsl_steps.proofs.Shards.{takes_drop, takes_reply}
use Rattle.rsl_steps.proofs.answers.take_datagram.Goals as goal

pub returns-in-Err : goal.returns-in-Err
returns-in-Err c = λ before are.
    rw c.answer_to_drop.ensures (takes_drop c.args.config.now c.args.boot before c.args.moment c.args.port c.args.source c.args.octets.now c.in-Err.dropped c.args.shards.now c.in-Err.ensures.meaning are)

pub returns : goal.returns
returns c = λ before are.
    takes_reply c.args.config.now c.args.boot before c.args.moment c.args.port c.args.source c.args.octets.now c.in-Ok.prepared.meaning (fields_of c.in-Ok.prepared.packet) c.in-Ok.prepared.client c.in-Ok-decide.decision c.said.result c.from.result
    c.args.shards.now c.decide.new.shards c.in-Ok.ensures.meaning c.in-Ok.ensures.packet c.in-Ok.ensures.client c.in-Ok.ensures.prepared.account are c.in-Ok-decide.ensures.decided (c.said.ensures ∙ ap (λ (kind : MeaningKind). said_to kind c.in-Ok-decide.decision) c.kind-kind.ensures.kind)
    (c.from.ensures ∙ c.shrink_to_fit.ensures.items ∙ c.reply_to-octets.ensures
    ∙ ap (λ (kind : MeaningKind). answer_to c.args.config.now c.args.boot c.in-Ok.prepared.client (fields_of c.in-Ok.prepared.packet) kind c.in-Ok-decide.decision) c.kind-kind.ensures.kind)
