-- The station of a link is the device that it is of: that of the last event that opened, took or
-- renewed the link and carried one.
use Rattle.std.specs.Prelude.{ℕ, suc, List, [], ◌∷◌, length, Bool, false, if◌then◌else◌, Option, Some, None}
use Rattle.std.specs.Option.{option_or}
use Rattle.rsl_event.specs.declared.event.Act.{Act}
use Rattle.rsl_event.specs.declared.event.Act.TheVariants.{Ask, Alive}
use Rattle.rsl_session.specs.declared.past_event.PastEvent.{PastEvent}
use Rattle.rsl_session.specs.Past.{Past}
use Rattle.rsl_session.specs.Same.{same_octets}
use Rattle.rsl_session.specs.Binding.{touches}

-- the station of an act
unfoldable pub station_of : Act → Option (List ℕ)
station_of (Ask key nas station) = station
station_of (Alive nas session bundle class station) = station
station_of _ = None

-- the station with which the entry with this number touched a link
unfoldable pub stationed_by : ℕ → ℕ → PastEvent → Option (List ℕ)
stationed_by link number entry =
    if touches link number entry.outcome then station_of entry.event.act else None

-- the station of a link: the last with which it was touched
unfoldable pub station_at : ℕ → Past → Option (List ℕ)
station_at link [] = None
station_at link (entry ∷ past) =
    option_or (stationed_by link (suc (length past)) entry) (station_at link past)

-- whether there are two stations, and they are the same
abbrev pub same_station : Option (List ℕ) → Option (List ℕ) → Bool
same_station (Some one) (Some other) = same_octets one other
same_station _ _ = false

-- whether a link is of a station
unfoldable pub is_of_station : Past → Option (List ℕ) → ℕ → Bool
is_of_station past station link = same_station (station_at link past) station
