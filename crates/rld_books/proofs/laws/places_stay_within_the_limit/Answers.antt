use Rattle.rld_books.proofs.Carrying.{limit_holds}
use Rattle.rld_books.proofs.laws.places_stay_within_the_limit.Goals as goal

pub returns : goal.returns
returns c = limit_holds
