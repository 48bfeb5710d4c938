use Rattle.rsl_steps.proofs.Journals.{journals_obey}
use Rattle.rsl_steps.proofs.laws.journals_obey_the_rule.Goals as goal

pub returns : goal.returns
returns c = journals_obey c.decision_law.ensures c.books_are_those_of_the_past.ensures c.books_hold_the_places_of_the_rule.ensures
