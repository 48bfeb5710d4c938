use Rattle.std.proofs.Common.{take, All}
use Rattle.rld_spelling.specs.Books.{kept_ask_field}
use Rattle.rld_spelling.proofs.book.asks_fit.Given as goal

abbrev pub invariant-loop-ask : goal.invariant-loop-ask
invariant-loop-ask l = All ((kept_ask_field l.clients).Fits) (take l.ask-index l.asks)
