use Rattle.std.proofs.Common.{◌≡◌, ◌-◌}
use Rattle.rld_spelling.specs.Lists.{values_at}
use Rattle.rld_spelling.proofs.Callers.{with_front}
use Rattle.rld_spelling.specs.Books.{kept_ask_at}
use Rattle.rld_spelling.proofs.book.read_ask_count.Given as goal

abbrev pub invariant-loop : goal.invariant-loop
invariant-loop l =
    with_front (l.asks.items) (values_at (kept_ask_at l.clients) (l.count - l.counter) l.reader) ≡ values_at (kept_ask_at l.clients) l.count l.fn.reader
