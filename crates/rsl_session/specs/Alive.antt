-- What an alive of a session does is the first of these that applies. It renews the link that is
-- bound to the session. It is ignored if the session is closed. It takes a reserved link at its
-- access server: with a class, the link of that accept number; with none, the link of the lowest.
-- It opens a new link, if the places then are within the limit. Otherwise it is over.
use Rattle.std.specs.Prelude.{ℕ, ◌-◌, ◌^◌, min, [], ◌∷◌, ◌++◌, Bool, true, false, ◌&&◌, ◌==◌, nat_le, find, count_by, if◌then◌else◌, Option, Some, None}
use Rattle.rsl_accounts.specs.declared.rules.Rules.{Rules}
use Rattle.rsl_event.specs.declared.event.Event.{Event}
use Rattle.rsl_event.specs.declared.nas.Nas.{Nas}
use Rattle.rsl_session.specs.declared.outcome.Outcome.{Outcome}
use Rattle.rsl_session.specs.declared.outcome.Outcome.TheVariants.{Opened, Took, Renewed, Ignored, Over}
use Rattle.rsl_session.specs.declared.session.Session.{Session}
use Rattle.rsl_session.specs.Past.{Past}
use Rattle.rsl_session.specs.Link.{number_at}
use Rattle.rsl_session.specs.Binding.{bundle_of, is_bound_to, is_reserved}
use Rattle.rsl_session.specs.Held.{held_before, is_at}
use Rattle.rsl_session.specs.Places.{places_of, bundles}
use Rattle.rsl_session.specs.Closed.{is_closed}

-- the link that a session is bound to
unfoldable pub link_of : Rules → Past → Event → Session → Option ℕ
link_of rules past event session = find (is_bound_to past session) (held_before rules past event)

-- whether an accept number is the one that a class names; without a class any number is
abbrev pub is_number : Option ℕ → Option ℕ → Bool
is_number None number = true
is_number (Some wanted) None = false
is_number (Some wanted) (Some number) = number == wanted

-- whether a link is a reservation that an alive can take
unfoldable pub is_chosen : Past → Nas → Option ℕ → ℕ → Bool
is_chosen past nas class link =
    is_reserved past link && is_at past nas link && is_number class (number_at link past)

-- the reservation that an alive takes: the first that opened, which has the lowest number
unfoldable pub reservation_of : Rules → Past → Event → Nas → Option ℕ → Option ℕ
reservation_of rules past event nas class =
    find (is_chosen past nas class) (held_before rules past event)

-- whether another link with the event's bundle can open
unfoldable pub has_room : Rules → Past → Event → Bool
has_room rules past event =
    nat_le (places_of rules.ports (bundles past (held_before rules past event)
    ++ bundle_of event.act ∷ [])) rules.places

-- what an alive does if it renews no link and its session is not closed, by the reservation that it
-- takes
abbrev pub unbound_outcome : Rules → Past → Event → Option ℕ → Outcome
unbound_outcome rules past event (Some link) = Took link
unbound_outcome rules past event None = if has_room rules past event then Opened else Over

-- what an alive of a session does, by the link that the session is bound to
abbrev pub alive_outcome : Rules → Past → Event → Session → Option ℕ → Option ℕ → Outcome
alive_outcome rules past event session class (Some link) = Renewed link
alive_outcome rules past event session class None =
    if is_closed rules past event session
    then Ignored
    else unbound_outcome rules past event (reservation_of rules past event session.nas class)

-- whether an alive found no place
abbrev pub is_over : Outcome → Bool
is_over Over = true
is_over _ = false

unfoldable pub over_count : Past → ℕ
over_count past = min (count_by (λ entry. is_over entry.outcome) past) (2 ^ 64 - 1)
