-- The step of a book: what one event makes of it, and the decision on the event.
--
-- The book first comes to the event: its clock moves, and the links that lapse then are gone. Then
-- the event acts on what is left.
use Rattle.std.specs.Prelude.{ℕ, ◌+◌, ◌-◌, ◌^◌, min, max, List, [], ◌∷◌, ◌++◌, map, filter, take, false, ◌&&◌, ◌||◌, not, nat_le, nat_lt, find, if◌then◌else◌, Option, Some, None}
use Rattle.std.specs.List.{list_any}
use Rattle.rsl_accounts.specs.declared.rules.Rules.{Rules}
use Rattle.rsl_event.specs.declared.event.Act.{Act}
use Rattle.rsl_event.specs.declared.event.Act.TheVariants.{Ask, Alive, Stop, Sweep, Tick}
use Rattle.rsl_event.specs.declared.event.Decision.{Decision}
use Rattle.rsl_event.specs.declared.event.Decision.TheVariants.{Accept, LimitReject, Done}
use Rattle.rsl_event.specs.declared.event.Event.{Event}
use Rattle.rsl_event.specs.declared.event.Key.{Key}
use Rattle.rsl_event.specs.declared.nas.Nas.{Nas}
use Rattle.rsl_session.specs.declared.bundle.Bundle.{Bundle}
use Rattle.rsl_session.specs.declared.kept.KeptAsk.{KeptAsk}
use Rattle.rsl_session.specs.declared.kept.KeptStop.{KeptStop}
use Rattle.rsl_session.specs.declared.session.Session.{Session}
use Rattle.rsl_session.specs.Same.{same_nas}
use Rattle.rsl_session.specs.Sweep.{precedes}
use Rattle.rsl_session.specs.Places.{places_of}
use Rattle.rsl_session.specs.Binding.{bundle_of}
use Rattle.rsl_session.specs.Ask.{KEPT_ASKS, repeats}
use Rattle.rsl_session.specs.Closed.{KEPT_STOPS, closes}
use Rattle.rsl_session.specs.Book.{Book, BookLink, Reserved, Bound, bundles_in}
use Rattle.rsl_session.specs.BookLinks.{lapses_at, is_link_of, can_be_taken, can_yield, can_return, is_swept, fits_beside, touch, take_for, change_first, without_first}

-- the book, come to a moment
unfoldable pub come_to : Rules → Book → ℕ → Book
come_to rules book moment =
    record book {
      clock = max book.clock moment;
      links = filter (λ link. not (lapses_at rules (max book.clock moment) link)) book.links;
    }

-- a fresh ask is kept with its decision, among the last 8
unfoldable pub keep_ask : Book → Key → Nas → Decision → Book
keep_ask book key nas decision =
    record book {
      asks = take KEPT_ASKS
          (record { key = key; nas = nas; decision = decision; at = book.clock; swept = false }
          ∷ book.asks);
    }

-- a fresh ask is refused, or accepted beside some links: it opens a reserved link after them
unfoldable pub refuse : Book → Key → Nas → Book × Decision
refuse book key nas = (keep_ask book key nas LimitReject, LimitReject)

unfoldable pub accept_beside
    : List BookLink → Book → Key → Nas → Option (List ℕ) → Book × Decision
accept_beside links book key nas station = (
  record (keep_ask book key nas (Accept book.accepts)) {
    links = links
        ++ record {
          nas = nas;
          holder = Reserved book.accepts;
          bundle = None;
          station = station;
          opened = book.clock;
          touched = book.clock;
        }
        ∷ [];
    accepts = book.accepts + 1;
  },
  Accept book.accepts,
)

-- a fresh ask for which no place is free: the link that can yield does, if there is one and that
-- makes room
abbrev pub ask_for_place
    : Rules → Book → Key → Nas → Option (List ℕ) → Option BookLink → Book × Decision
ask_for_place rules book key nas station None = refuse book key nas
ask_for_place rules book key nas station (Some link) =
    if fits_beside rules (without_first (can_yield rules book.clock book.links) book.links)
    then accept_beside
    (without_first (can_yield rules book.clock book.links) book.links) book key nas station
    else refuse book key nas

-- a fresh ask to which no link of its station yields
unfoldable pub placed_ask : Rules → Book → Key → Nas → Option (List ℕ) → Book × Decision
placed_ask rules book key nas station =
    if fits_beside rules book.links
    then accept_beside book.links book key nas station
    else ask_for_place rules book key nas station
    (find (can_yield rules book.clock book.links) book.links)

-- a fresh ask, by the link of its station that can yield: it does if that makes room
abbrev pub ask_of_station
    : Rules → Book → Key → Nas → Option (List ℕ) → Option BookLink → Book × Decision
ask_of_station rules book key nas station None = placed_ask rules book key nas station
ask_of_station rules book key nas station (Some link) =
    if fits_beside rules (without_first (can_return station book.links) book.links)
    then accept_beside
    (without_first (can_return station book.links) book.links) book key nas station
    else placed_ask rules book key nas station

-- a fresh ask for which there is an accept number
unfoldable pub fresh_ask : Rules → Book → Key → Nas → Option (List ℕ) → Book × Decision
fresh_ask rules book key nas station =
    ask_of_station rules book key nas station (find (can_return station book.links) book.links)

-- an ask, by the latest kept ask that it repeats
abbrev pub ask : Rules → Book → Key → Nas → Option (List ℕ) → Option KeptAsk → Book × Decision
ask rules book key nas station (Some kept) = (book, kept.decision)
ask rules book key nas station None =
    if nat_lt book.accepts (2 ^ 64 - 1)
    then fresh_ask rules book key nas station
    else refuse book key nas

-- an alive that opens a link, if the places are then within the limit; otherwise it is over
unfoldable pub open_link : Rules → Book → Session → Option Bundle → Option (List ℕ) → Book
open_link rules book session bundle station =
    if nat_le (places_of rules.ports (bundles_in book.links ++ bundle ∷ [])) rules.places
    then record book {
      links = book.links
          ++ record {
            nas = session.nas;
            holder = Bound session;
            bundle = bundle;
            station = station;
            opened = book.clock;
            touched = book.clock;
          }
          ∷ [];
    }
    else record book { over = min (book.over + 1) (2 ^ 64 - 1) }

-- an alive that renews no link, and whose session is not closed, by the first reservation that it
-- can take
abbrev pub bind
    : Rules → Book → Session → Option Bundle → Option ℕ → Option (List ℕ) → Option BookLink → Book
bind rules book session bundle class station (Some link) =
    record book {
      links = change_first (can_be_taken session.nas class)
          (take_for session book.clock bundle station) book.links;
    }
bind rules book session bundle class station None = open_link rules book session bundle station

-- an alive, by the link that its session is bound to
abbrev pub alive
    : Rules → Book → Session → Option Bundle → Option ℕ → Option (List ℕ) → Option BookLink → Book
alive rules book session bundle class station (Some link) =
    record book {
      links = change_first (is_link_of session) (touch book.clock bundle station) book.links;
    }
alive rules book session bundle class station None =
    if list_any (closes rules session book.clock) book.stops
    then book
    else bind rules book session bundle class station
    (find (can_be_taken session.nas class) book.links)

-- a stop ends the link of its session, and is kept among the last 16
unfoldable pub stop : Book → Session → Book
stop book session =
    record book {
      links = filter (λ link. not (is_link_of session link)) book.links;
      stops = take KEPT_STOPS
          (record { session = session; at = book.clock; swept = false } ∷ book.stops);
    }

-- a kept ask or stop after a sweep of an access server, now
unfoldable pub sweep_ask : Nas → (delay now : ℕ) → KeptAsk → KeptAsk
sweep_ask nas delay now kept =
    record kept { swept = kept.swept || (same_nas nas kept.nas && precedes kept.at delay now) }

unfoldable pub sweep_stop : Nas → (delay now : ℕ) → KeptStop → KeptStop
sweep_stop nas delay now kept =
    record kept {
      swept = kept.swept || (same_nas nas kept.session.nas && precedes kept.at delay now);
    }

-- a sweep ends the links at its access server, and voids the asks and stops from there, where they
-- came before the restart
unfoldable pub sweep : Book → Nas → (delay : ℕ) → Book
sweep book nas delay =
    record book {
      links = filter (λ link. not (is_swept nas delay book.clock link)) book.links;
      asks = map (sweep_ask nas delay book.clock) book.asks;
      stops = map (sweep_stop nas delay book.clock) book.stops;
    }

-- what an act does to a book that has come to the act's moment
abbrev pub act_on : Rules → Book → Act → Book × Decision
act_on rules book (Ask key nas station) =
    ask rules book key nas station (find (repeats rules key book.clock) book.asks)
act_on rules book (Alive nas id bundle class station) = (
  alive rules book (record { nas = nas; id = id })
      (bundle_of (Alive nas id bundle class station)) class station
      (find (is_link_of (record { nas = nas; id = id })) book.links),
  Done,
)
act_on rules book (Stop nas id) = (stop book (record { nas = nas; id = id }), Done)
act_on rules book (Sweep nas delay) = (sweep book nas delay, Done)
act_on rules book Tick = (book, Done)

unfoldable pub step : Rules → Book → Event → Book × Decision
step rules book event = act_on rules (come_to rules book event.moment) event.act

-- a book after some events, oldest first, and the decision on each of them
unfoldable pub book_after : Rules → Book → List Event → Book
book_after rules book [] = book
book_after rules book (event ∷ events) = book_after rules (step rules book event).0 events

unfoldable pub decided_by : Rules → Book → List Event → List Decision
decided_by rules book [] = []
decided_by rules book (event ∷ events) =
    (step rules book event).1 ∷ decided_by rules (step rules book event).0 events
