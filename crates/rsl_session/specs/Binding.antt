-- A link is bound to the session of the alive that opened or took it, and reserved until then. Its
-- bundle is that of the first alive that opened, took or renewed it and carried one.
use Rattle.std.specs.Prelude.{ℕ, suc, [], ◌∷◌, length, Bool, false, ◌==◌, if◌then◌else◌, Option, Some, None, is_none}
use Rattle.std.specs.Option.{option_or, option_map}
use Rattle.rsl_event.specs.declared.event.Act.{Act}
use Rattle.rsl_event.specs.declared.event.Act.TheVariants.{Alive}
use Rattle.rsl_session.specs.declared.past_event.PastEvent.{PastEvent}
use Rattle.rsl_session.specs.declared.outcome.Outcome.{Outcome}
use Rattle.rsl_session.specs.declared.outcome.Outcome.TheVariants.{Accepted, AcceptedInPlace, Opened, Took, Renewed}
use Rattle.rsl_session.specs.declared.session.Session.{Session}
use Rattle.rsl_session.specs.declared.bundle.Bundle.{Bundle}
use Rattle.rsl_session.specs.Past.{Past}
use Rattle.rsl_session.specs.Same.{same_session}

-- whether the event with this number opened or took a link for a session
unfoldable pub binds : ℕ → ℕ → Outcome → Bool
binds link number Opened = link == number
binds link number (Took taken) = link == taken
binds link number _ = false

-- whether the event with this number opened, took or renewed a link
unfoldable pub touches : ℕ → ℕ → Outcome → Bool
touches link number (Accepted accept) = link == number
touches link number (AcceptedInPlace accept yielded) = link == number
touches link number Opened = link == number
touches link number (Took taken) = link == taken
touches link number (Renewed renewed) = link == renewed
touches link number _ = false

-- the session of an alive
unfoldable pub session_of : Act → Option Session
session_of (Alive nas session bundle class station) = Some (record { nas = nas; id = session })
session_of _ = None

-- the bundle of an alive
unfoldable pub bundle_of : Act → Option Bundle
bundle_of (Alive nas session bundle class station) = option_map (λ id. record { nas = nas; id = id }) bundle
bundle_of _ = None

-- the session for which the entry with this number opened or took a link, and the bundle with which
-- it touched it
unfoldable pub bound_by : ℕ → ℕ → PastEvent → Option Session
bound_by link number entry =
    if binds link number entry.outcome then session_of entry.event.act else None

unfoldable pub bundled_by : ℕ → ℕ → PastEvent → Option Bundle
bundled_by link number entry =
    if touches link number entry.outcome then bundle_of entry.event.act else None

-- the session of a link: the first that bound it
unfoldable pub session_at : ℕ → Past → Option Session
session_at link [] = None
session_at link (entry ∷ past) =
    option_or (session_at link past) (bound_by link (suc (length past)) entry)

-- the bundle of a link: the first with which it was touched
unfoldable pub bundle_at : ℕ → Past → Option Bundle
bundle_at link [] = None
bundle_at link (entry ∷ past) =
    option_or (bundle_at link past) (bundled_by link (suc (length past)) entry)

-- whether a session is this one
abbrev pub is_session : Option Session → Session → Bool
is_session None session = false
is_session (Some other) session = same_session other session

-- whether a link is reserved, and whether it is bound to a session
unfoldable pub is_reserved : Past → ℕ → Bool
is_reserved past link = is_none (session_at link past)

unfoldable pub is_bound_to : Past → Session → ℕ → Bool
is_bound_to past session link = is_session (session_at link past) session
