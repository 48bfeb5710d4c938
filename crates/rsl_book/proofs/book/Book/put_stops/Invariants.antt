use Rattle.std.proofs.Common.{◌≡◌, drop}
use Rattle.rsl_book.proofs.book.Book.put_stops.Given as goal

abbrev pub invariant-loop-index : goal.invariant-loop-index
invariant-loop-index l = l.self ≡ record l.initial.self { book = record l.initial.self.book { stops = drop l.index l.saved } }
