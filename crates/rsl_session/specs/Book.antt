-- The running book of an account: what it holds now, so that its next event is decided without a
-- look back.
--
-- A link of a book is at its access server. It is reserved by an accept number or bound to a
-- session, may have a bundle and a station, and has the clock when it opened and at its last touch.
use Rattle.std.specs.Prelude.{ℕ, ◌-◌, List, [], map, Bool, true, false, ◌&&◌, nat_le, nat_lt, count_by, Option}
use Rattle.rsl_accounts.specs.declared.rules.Rules.{Rules}
use Rattle.rsl_event.specs.declared.nas.Nas.{Nas}
use Rattle.rsl_session.specs.declared.bundle.Bundle.{Bundle}
use Rattle.rsl_session.specs.declared.kept.KeptAsk.{KeptAsk}
use Rattle.rsl_session.specs.declared.kept.KeptStop.{KeptStop}
use Rattle.rsl_session.specs.declared.session.Session.{Session}
use Rattle.rsl_session.specs.Places.{places_of}

-- what holds a link: the accept number that reserves it, or the session that it is bound to
pub data Holder : Type 0 where
  Reserved : ℕ → Holder
  Bound : Session → Holder

pub record BookLink : Type 0 where
  pub nas : Nas
  pub holder : Holder
  pub bundle : Option Bundle
  pub station : Option (List ℕ)
  pub opened : ℕ
  pub touched : ℕ

-- the links in the order in which they opened, the next accept number, and the last fresh asks and
-- the last stops, newest first
pub record Book : Type 0 where
  pub clock : ℕ
  pub links : List BookLink
  pub accepts : ℕ
  pub asks : List KeptAsk
  pub stops : List KeptStop
  pub over : ℕ

-- the book of an account that has had no event
unfoldable pub new_book : Book
new_book = record { clock = 0; links = []; accepts = 0; asks = []; stops = []; over = 0 }

-- the bundles of some links
unfoldable pub bundles_in : List BookLink → List (Option Bundle)
bundles_in links = map (λ (link : BookLink). link.bundle) links

-- the places held
unfoldable pub places_in : Rules → Book → ℕ
places_in rules book = places_of rules.ports (bundles_in book.links)

-- whether a link is bound
abbrev pub is_bound : Holder → Bool
is_bound (Reserved number) = false
is_bound (Bound session) = true

-- whether a link is reserved
abbrev pub is_reservation : Holder → Bool
is_reservation (Reserved number) = true
is_reservation (Bound session) = false

-- whether a link is bound, and live or stale at this clock
unfoldable pub is_live_at : Rules → ℕ → BookLink → Bool
is_live_at rules now link = is_bound link.holder && nat_lt (now - link.touched) rules.live

unfoldable pub is_stale_at : Rules → ℕ → BookLink → Bool
is_stale_at rules now link = is_bound link.holder && nat_le rules.live (now - link.touched)

-- the numbers of reserved, live and stale links
unfoldable pub reserved_in : Book → ℕ
reserved_in book = count_by (λ (link : BookLink). is_reservation link.holder) book.links

unfoldable pub live_in : Rules → Book → ℕ
live_in rules book = count_by (is_live_at rules book.clock) book.links

unfoldable pub stale_in : Rules → Book → ℕ
stale_in rules book = count_by (is_stale_at rules book.clock) book.links
