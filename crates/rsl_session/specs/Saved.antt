-- The running book that a saved book stands for. A saved link names its session and its bundle by
-- their ids alone: both are at the link's access server.
use Rattle.std.specs.Prelude.{ℕ, List, map, Option}
use Rattle.std.specs.Option.{option_map}
use Rattle.rsl_event.specs.declared.nas.Nas.{Nas}
use Rattle.rsl_session.specs.declared.bundle.Bundle.{Bundle}
use Rattle.rsl_session.specs.Book.{Book, BookLink, Holder, Reserved, Bound}
use Rattle.rsl_session.specs.declared.saved.SavedBook.{SavedBook}
use Rattle.rsl_session.specs.declared.saved.SavedHolder.{SavedHolder}
use Rattle.rsl_session.specs.declared.saved.SavedHolder.TheVariants as saved
use Rattle.rsl_session.specs.declared.saved.SavedLink.{SavedLink}

-- what held a link at an access server
abbrev pub saved_holder : Nas → SavedHolder → Holder
saved_holder nas (saved.Reserved number) = Reserved number
saved_holder nas (saved.Bound id) = Bound (record { nas = nas; id = id })

-- the bundle of this id at an access server
abbrev pub saved_bundle : Nas → Option (List ℕ) → Option Bundle
saved_bundle nas id = option_map (λ id. record { nas = nas; id = id }) id

unfoldable pub saved_link : SavedLink → BookLink
saved_link link =
    record {
      nas = link.nas;
      holder = saved_holder link.nas link.holder;
      bundle = saved_bundle link.nas link.bundle;
      station = link.station;
      opened = link.opened;
      touched = link.touched;
    }

unfoldable pub saved_links : List SavedLink → List BookLink
saved_links links = map saved_link links

-- the book that was saved: the asks and stops are kept as they are
unfoldable pub saved_book : SavedBook → Book
saved_book book =
    record {
      clock = book.clock;
      links = saved_links book.links.items;
      accepts = book.accepts;
      asks = book.asks.items;
      stops = book.stops.items;
      over = book.over;
    }
