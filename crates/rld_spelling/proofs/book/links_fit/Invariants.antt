use Rattle.std.proofs.Common.{take, All}
use Rattle.rld_spelling.specs.Books.{link_field}
use Rattle.rld_spelling.proofs.book.links_fit.Given as goal

abbrev pub invariant-loop-link : goal.invariant-loop-link
invariant-loop-link l = All ((link_field l.clients).Fits) (take l.link-index l.links)
