use Rattle.std.proofs.Common.{take}
use Rattle.rsl_session.proofs.BookJoined.{books_within}
use Rattle.rsl_session.proofs.laws.books_stay_within_the_limit.Goals as goal

pub returns : goal.returns
returns c rules events n fit = books_within rules (take n events) fit
