use Rattle.std.proofs.Common.{◌≡◌, take, map}
use Rattle.rsl_session.specs.declared.past_event.PastEvent.{PastEvent}
use Rattle.rsl_session.specs.Rule.{decision_of}
use Rattle.rsl_rule.proofs.decisions.decide.Given as goal

abbrev pub invariant-loop-entry : goal.invariant-loop-entry
invariant-loop-entry l = l.decisions.items ≡ map (λ (entry : PastEvent). decision_of entry.outcome) (take l.entry-index l.entry-items)
