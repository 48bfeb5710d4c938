use Rattle.std.proofs.Common.{map, ap, ◌∙◌}
use Rattle.std.proofs.lemmas.List.{take_all}
use Rattle.rsl_session.specs.declared.past_event.PastEvent.{PastEvent}
use Rattle.rsl_session.specs.Rule.{decision_of}
use Rattle.rsl_rule.proofs.Whole.{noted_all}
use Rattle.rsl_rule.proofs.decisions.decide.Goals as goal

pub returns-clause-decisions : goal.returns-clause-decisions
returns-clause-decisions c =
    c.loop-entry.invariant
    ∙ ap (map (λ (entry : PastEvent). decision_of entry.outcome)) (take_all c.loop-entry.entry-index c.deref-entry-items.result.now c.loop-entry-test.false ∙ c.deref-entry-items.ensures.value)
    ∙ noted_all c.args.rules.now c.in_ok-history.history.items c.args.events.now c.in_ok-history.ensures.past
