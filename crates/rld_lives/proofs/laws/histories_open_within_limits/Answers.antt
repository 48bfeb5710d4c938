use Rattle.rld_lives.proofs.Openings.{histories_open}
use Rattle.rld_lives.proofs.laws.histories_open_within_limits.Goals as goal

pub returns : goal.returns
returns c = histories_open c.books_stay_within_the_limit.ensures c.places_stay_within_the_limit.ensures c.cut_books_fit.ensures
