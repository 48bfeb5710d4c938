use Rattle.std.proofs.Common.{◌≡◌, take}
use Rattle.rsl_session.specs.Saved.{saved_links}
use Rattle.rsl_book.proofs.book.Book.put_links.Given as goal

abbrev pub invariant-loop-link : goal.invariant-loop-link
invariant-loop-link l = l.self ≡ record l.initial.self { book = record l.initial.self.book { links = saved_links (take l.link-index l.saved) } }
