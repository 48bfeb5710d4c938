-- How the past of an account is seen as a book.
use Rattle.std.specs.Prelude.{ℕ, [], map, take, Option, Some, None}
use Rattle.rsl_accounts.specs.declared.rules.Rules.{Rules}
use Rattle.rsl_event.specs.declared.nas.Nas.{Nas}
use Rattle.rsl_event.specs.declared.nas.NasName.TheVariants.{Unnamed}
use Rattle.rsl_session.specs.declared.session.Session.{Session}
use Rattle.rsl_session.specs.Past.{Past}
use Rattle.rsl_session.specs.Clock.{clock}
use Rattle.rsl_session.specs.Link.{nas_at, number_at, opened_at}
use Rattle.rsl_session.specs.Binding.{session_at, bundle_at}
use Rattle.rsl_session.specs.Station.{station_at}
use Rattle.rsl_session.specs.Touch.{touched_at}
use Rattle.rsl_session.specs.Held.{held_links}
use Rattle.rsl_session.specs.Ask.{KEPT_ASKS, accepts, fresh_asks}
use Rattle.rsl_session.specs.Closed.{KEPT_STOPS, stops}
use Rattle.rsl_session.specs.Alive.{over_count}
use Rattle.rsl_session.specs.Book.{Book, BookLink, Holder, Reserved, Bound}

-- what holds a link, by its accept number and its session. If a past follows the rule, a held link
-- has one of the two, and an access server: the last case of each of these does not come up.
abbrev pub holder_of : Option ℕ → Option Session → Holder
holder_of number (Some session) = Bound session
holder_of (Some number) None = Reserved number
holder_of None None = Reserved 0

abbrev pub known_nas : Option Nas → Nas
known_nas (Some nas) = nas
known_nas None = record { client = 0; name = Unnamed }

-- a link of a past, as a book has it
unfoldable pub link_view : Past → ℕ → BookLink
link_view past link =
    record {
      nas = known_nas (nas_at link past);
      holder = holder_of (number_at link past) (session_at link past);
      bundle = bundle_at link past;
      station = station_at link past;
      opened = opened_at link past;
      touched = touched_at link past;
    }

unfoldable pub book_of : Rules → Past → Book
book_of rules past =
    record {
      clock = clock past;
      links = map (link_view past) (held_links rules past);
      accepts = accepts past;
      asks = take KEPT_ASKS (fresh_asks [] past);
      stops = take KEPT_STOPS (stops [] past);
      over = over_count past;
    }
