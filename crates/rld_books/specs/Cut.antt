-- Books cut to a moment: each later moment in them becomes that moment. Nothing else changes: not
-- the links, their order, sessions, stations and accept numbers, nor what is kept.
use Rattle.std.specs.Prelude.{ℕ, ◌+◌, nat_lt, List, map, sum_by, if◌then◌else◌}
use Rattle.rsl_book.specs.RuledBook.{RuledBook}
use Rattle.rsl_session.specs.Book.{Book, BookLink}
use Rattle.rsl_session.specs.declared.kept.KeptAsk.{KeptAsk}
use Rattle.rsl_session.specs.declared.kept.KeptStop.{KeptStop}
use Rattle.rld_books.specs.Saved.{saved_server}

-- the earlier of two moments
unfoldable pub earlier : (now moment : ℕ) → ℕ
earlier now moment = if nat_lt now moment then now else moment

abbrev pub cut_link : (now : ℕ) → BookLink → BookLink
cut_link now link = record {
  nas = link.nas;
  holder = link.holder;
  bundle = link.bundle;
  station = link.station;
  opened = earlier now link.opened;
  touched = earlier now link.touched;
}

abbrev pub cut_ask : (now : ℕ) → KeptAsk → KeptAsk
cut_ask now ask = record {
  key = ask.key;
  nas = ask.nas;
  decision = ask.decision;
  at = earlier now ask.at;
  swept = ask.swept;
}

abbrev pub cut_stop : (now : ℕ) → KeptStop → KeptStop
cut_stop now stop = record {
  session = stop.session;
  at = earlier now stop.at;
  swept = stop.swept;
}

-- the clock, the opening and the last touch of each link, and the moments of the kept asks and
-- stops
unfoldable pub cut_book : (now : ℕ) → Book → Book
cut_book now book = record {
  clock = earlier now book.clock;
  links = map (cut_link now) book.links;
  accepts = book.accepts;
  asks = map (cut_ask now) book.asks;
  stops = map (cut_stop now) book.stops;
  over = book.over;
}

abbrev pub cut_ruled : (now : ℕ) → RuledBook → RuledBook
cut_ruled now ruled = record { rules = ruled.rules; book = cut_book now ruled.book }

-- the books of a server, each of them cut
abbrev pub cut_server : (now : ℕ) → List RuledBook → List RuledBook
cut_server now server = map (cut_ruled now) server

-- ---- how many moments are cut

-- 1 for a moment that is later
abbrev pub late : (now moment : ℕ) → ℕ
late now moment = if nat_lt now moment then 1 else 0

-- the moments of a book that are later
unfoldable pub late_in : (now : ℕ) → Book → ℕ
late_in now book =
    late now book.clock
    + sum_by (λ (link : BookLink). late now link.opened + late now link.touched) book.links
    + sum_by (λ (ask : KeptAsk). late now ask.at) book.asks
    + sum_by (λ (stop : KeptStop). late now stop.at) book.stops

-- the later moments of all books of a server
abbrev pub late_in_server : (now : ℕ) → List RuledBook → ℕ
late_in_server now server = sum_by (late_in now) (saved_server server)
