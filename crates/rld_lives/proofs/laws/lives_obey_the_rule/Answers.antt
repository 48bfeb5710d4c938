use Rattle.rld_lives.proofs.Obeying.{lives_obey}
use Rattle.rld_lives.proofs.laws.lives_obey_the_rule.Goals as goal

pub returns : goal.returns
returns c =
    lives_obey c.histories_open_within_limits.ensures c.histories_stay_within_limits.ensures c.decision_law.ensures c.books_are_those_of_the_past.ensures c.books_hold_the_places_of_the_rule.ensures
