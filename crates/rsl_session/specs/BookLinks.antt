-- What an event looks up among the links of a book, and how it changes them.
use Rattle.std.specs.Prelude.{ℕ, ◌+◌, ◌-◌, List, [], ◌∷◌, filter, Bool, true, false, ◌&&◌, ◌==◌, nat_le, if◌then◌else◌, Option, Some, None}
use Rattle.std.specs.List.{list_all}
use Rattle.std.specs.Option.{option_or}
use Rattle.rsl_accounts.specs.declared.rules.Rules.{Rules}
use Rattle.rsl_event.specs.declared.nas.Nas.{Nas}
use Rattle.rsl_session.specs.declared.bundle.Bundle.{Bundle}
use Rattle.rsl_session.specs.declared.session.Session.{Session}
use Rattle.rsl_session.specs.Same.{same_nas, same_session}
use Rattle.rsl_session.specs.Station.{same_station}
use Rattle.rsl_session.specs.Sweep.{precedes}
use Rattle.rsl_session.specs.Places.{places_of}
use Rattle.rsl_session.specs.Book.{BookLink, Holder, Reserved, Bound, bundles_in, is_stale_at}

-- the first element that passes is changed, or removed
unfoldable pub change_first : {A : Type 0} → (A → Bool) → (A → A) → List A → List A
change_first passes change [] = []
change_first passes change (x ∷ xs) =
    if passes x then change x ∷ xs else x ∷ change_first passes change xs

unfoldable pub without_first : {A : Type 0} → (A → Bool) → List A → List A
without_first passes [] = []
without_first passes (x ∷ xs) = if passes x then xs else x ∷ without_first passes xs

-- the seconds for which an untouched link is held
abbrev pub time_of : Rules → Holder → ℕ
time_of rules (Reserved number) = rules.reserve
time_of rules (Bound session) = rules.live + rules.grace

-- whether a link lapses at this clock
unfoldable pub lapses_at : Rules → ℕ → BookLink → Bool
lapses_at rules now link = nat_le (time_of rules link.holder) (now - link.touched)

-- whether a link is bound to a session
abbrev pub is_holder : Session → Holder → Bool
is_holder session (Reserved number) = false
is_holder session (Bound other) = same_session other session

unfoldable pub is_link_of : Session → BookLink → Bool
is_link_of session link = is_holder session link.holder

-- whether a link is a reservation that an alive at an access server can take: by the number of its
-- class, if it has one
abbrev pub is_wanted : Option ℕ → Holder → Bool
is_wanted class (Bound session) = false
is_wanted None (Reserved number) = true
is_wanted (Some wanted) (Reserved number) = number == wanted

unfoldable pub can_be_taken : Nas → Option ℕ → BookLink → Bool
can_be_taken nas class link = is_wanted class link.holder && same_nas link.nas nas

-- whether a link is the one touched longest ago of those that pass a test
unfoldable pub is_oldest : (BookLink → Bool) → List BookLink → BookLink → Bool
is_oldest passes links link =
    passes link
    && list_all (λ (other : BookLink). nat_le link.touched other.touched) (filter passes links)

-- whether a link can yield at this clock: it is stale, and no stale link was touched before it
unfoldable pub can_yield : Rules → ℕ → List BookLink → BookLink → Bool
can_yield rules now links link = is_oldest (is_stale_at rules now) links link

-- whether a link is of the station that asks
unfoldable pub is_stationed : Option (List ℕ) → BookLink → Bool
is_stationed station link = same_station link.station station

-- whether a link can yield to a station: it is of the station, and no such link was touched before it
unfoldable pub can_return : Option (List ℕ) → List BookLink → BookLink → Bool
can_return station links link = is_oldest (is_stationed station) links link

-- whether a sweep of an access server ends a link: it is there, and opened at least the delay ago
unfoldable pub is_swept : Nas → (delay now : ℕ) → BookLink → Bool
is_swept nas delay now link = same_nas link.nas nas && precedes link.opened delay now

-- whether another link without a bundle, beside some links, leaves the places within the limit
unfoldable pub fits_beside : Rules → List BookLink → Bool
fits_beside rules links = nat_le (places_of rules.ports (bundles_in links) + 1) rules.places

-- a link that is touched, by an alive that may carry a bundle and a station
unfoldable pub touch : ℕ → Option Bundle → Option (List ℕ) → BookLink → BookLink
touch now bundle station link =
    record link {
      bundle = option_or link.bundle bundle;
      station = option_or station link.station;
      touched = now;
    }

-- a reserved link that a session takes
unfoldable pub take_for : Session → ℕ → Option Bundle → Option (List ℕ) → BookLink → BookLink
take_for session now bundle station link =
    record (touch now bundle station link) { holder = Bound session }
