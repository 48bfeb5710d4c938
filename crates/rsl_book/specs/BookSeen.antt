-- How the inside of a book is seen, and its invariant: the numbers agree with the links, the places
-- are within the limit, and there is room for every link that may still open and for whatever names
-- an access server.
use Rattle.std.specs.Prelude.{◌≡◌, ◌+◌, ◌*◌, ◌<◌, ◌≤◌, length}
use Rattle.rsl_accounts.specs.Limits.{RulesFit}
use Rattle.rsl_session.specs.Book.{Book}
use Rattle.rsl_book.specs.declared.book.Book.TheInside.{Inside}
use Rattle.rsl_book.specs.RuledBook.{RuledBook}
use Rattle.rsl_links.specs.Seen.{links_seen}
use Rattle.rsl_book.specs.Seen.{asks_seen, stops_seen}
use Rattle.rsl_links.specs.Counted.{AreCounted}

abbrev pub running : Inside → Book
running book =
    record {
      clock = book.clock;
      links = links_seen book.servers book.links.list.items;
      accepts = book.accepts;
      asks = asks_seen book.servers book.asks.items;
      stops = stops_seen book.servers book.stops.items;
      over = book.over;
    }

abbrev pub book_seen : Inside → RuledBook
book_seen book = record { rules = book.rules; book = running book }

pub record IsSound (book : Inside) : Type 0 where
  pub fit : RulesFit book.rules
  pub ports : book.links.ports ≡ book.rules.ports
  pub counted : AreCounted book.servers book.links
  pub limit : book.links.places ≤ book.rules.places
  pub room : book.rules.places * book.rules.ports ≤ book.links.list.room
  pub table : book.rules.places * book.rules.ports + 24 < length book.servers
  pub asks : book.asks.capacity ≡ 8
  pub stops : book.stops.capacity ≡ 16
