use Rattle.rld_lives.proofs.History.{books_go_on, journal_goes_on}
use Rattle.rld_lives.proofs.laws.restarts_change_nothing.Goals as goal

pub returns : goal.returns
returns c = λ server earlier life. (journal_goes_on server earlier life, books_go_on server earlier life)
