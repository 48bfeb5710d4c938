use Rattle.rsl_steps.proofs.Headline.{shards_obey}
use Rattle.rsl_steps.proofs.laws.shards_obey_the_rule.Goals as goal

pub returns : goal.returns
returns c = shards_obey c.books_are_those_of_the_past.ensures c.books_hold_the_places_of_the_rule.ensures c.books_stay_within_the_limit.ensures
