-- A book carried over when the accounts change.
--
-- A client goes on if its address is there after the change too, under the number that the address has
-- there: `next` gives that number, and none for a client that is gone. What a book has of a client
-- that is gone is left out. The other links go on, in the order in which they opened, if they find
-- a place under the account's new rules. Nothing else changes: not the clock, the stations,
-- openings and last touches of links, the accept numbers, nor the decisions.
use Rattle.std.specs.Prelude.{ℕ, List, [], ◌∷◌, ◌++◌, map, filter, Bool, nat_le, is_some, if◌then◌else◌, Option}
use Rattle.std.specs.Option.{option_map, unwrap_or}
use Rattle.rsl_accounts.specs.declared.rules.Rules.{Rules}
use Rattle.rsl_event.specs.declared.nas.Nas.{Nas}
use Rattle.rsl_session.specs.Book.{Book, BookLink, Holder, Reserved, Bound, bundles_in}
use Rattle.rsl_session.specs.Places.{places_of}
use Rattle.rsl_session.specs.declared.bundle.Bundle.{Bundle}
use Rattle.rsl_session.specs.declared.kept.KeptAsk.{KeptAsk}
use Rattle.rsl_session.specs.declared.kept.KeptStop.{KeptStop}
use Rattle.rsl_session.specs.declared.session.Session.{Session}

-- for the number of a client, its number after the change, if it goes on
abbrev pub Next : Type 0
Next = ℕ → Option ℕ

-- whether an access server is of a client that goes on
abbrev pub goes_on : Next → Nas → Bool
goes_on next nas = is_some (next nas.client)

-- an access server, session and bundle as they are named after the change
abbrev pub carried_nas : Next → Nas → Nas
carried_nas next nas = record { client = unwrap_or (next nas.client) nas.client; name = nas.name }

abbrev pub carried_session : Next → Session → Session
carried_session next session =
    record { nas = carried_nas next session.nas; id = session.id }

abbrev pub carried_bundle : Next → Bundle → Bundle
carried_bundle next bundle = record { nas = carried_nas next bundle.nas; id = bundle.id }

abbrev pub carried_holder : Next → Holder → Holder
carried_holder next (Reserved number) = Reserved number
carried_holder next (Bound session) = Bound (carried_session next session)

-- a link, with its station, its opening and its last touch
abbrev pub carried_link : Next → BookLink → BookLink
carried_link next link = record {
  nas = carried_nas next link.nas;
  holder = carried_holder next link.holder;
  bundle = option_map (carried_bundle next) link.bundle;
  station = link.station;
  opened = link.opened;
  touched = link.touched;
}

-- a fresh ask, with its decision
abbrev pub carried_ask : Next → KeptAsk → KeptAsk
carried_ask next ask = record {
  key = ask.key;
  nas = carried_nas next ask.nas;
  decision = ask.decision;
  at = ask.at;
  swept = ask.swept;
}

abbrev pub carried_stop : Next → KeptStop → KeptStop
carried_stop next stop = record {
  session = carried_session next stop.session;
  at = stop.at;
  swept = stop.swept;
}

-- the links, asks and stops at clients that go on
unfoldable pub links_on : Next → List BookLink → List BookLink
links_on next links =
    map (carried_link next) (filter (λ (link : BookLink). goes_on next link.nas) links)

unfoldable pub asks_on : Next → List KeptAsk → List KeptAsk
asks_on next asks =
    map (carried_ask next) (filter (λ (ask : KeptAsk). goes_on next ask.nas) asks)

unfoldable pub stops_on : Next → List KeptStop → List KeptStop
stops_on next stops =
    map (carried_stop next) (filter (λ (stop : KeptStop). goes_on next stop.session.nas) stops)

-- whether a link finds a place beside others
abbrev pub finds_place : Rules → List BookLink → BookLink → Bool
finds_place rules others link =
    nat_le (places_of rules.ports (bundles_in others ++ link.bundle ∷ [])) rules.places

-- some links, and each of the following that finds a place beside those before it
unfoldable pub placed : Rules → List BookLink → List BookLink → List BookLink
placed rules links [] = links
placed rules links (link ∷ more) =
    if finds_place rules links link
    then placed rules (links ++ link ∷ []) more
    else placed rules links more

-- the book under the rules after the change
unfoldable pub carried_book : Next → Rules → Book → Book
carried_book next rules book = record {
  clock = book.clock;
  links = placed rules [] (links_on next book.links);
  accepts = book.accepts;
  asks = asks_on next book.asks;
  stops = stops_on next book.stops;
  over = book.over;
}
