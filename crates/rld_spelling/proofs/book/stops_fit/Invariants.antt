use Rattle.std.proofs.Common.{take, All}
use Rattle.rld_spelling.specs.Books.{kept_stop_field}
use Rattle.rld_spelling.proofs.book.stops_fit.Given as goal

abbrev pub invariant-loop-stop : goal.invariant-loop-stop
invariant-loop-stop l = All ((kept_stop_field l.clients).Fits) (take l.stop-index l.stops)
