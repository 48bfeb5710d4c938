-- A link is a place in the count that an accepted ask reserves, or that an alive opens. It is at
-- the access server of the event that opened it, and one that an ask opened has that ask's accept
-- number.
use Rattle.std.specs.Prelude.{ℕ, suc, List, [], ◌∷◌, ◌++◌, length, Bool, true, false, ◌==◌, if◌then◌else◌, Option, Some, None}
use Rattle.std.specs.Option.{option_and_then}
use Rattle.rsl_event.specs.declared.event.Act.{Act}
use Rattle.rsl_event.specs.declared.event.Act.TheVariants.{Ask, Alive, Stop, Sweep, Tick}
use Rattle.rsl_event.specs.declared.nas.Nas.{Nas}
use Rattle.rsl_session.specs.declared.outcome.Outcome.{Outcome}
use Rattle.rsl_session.specs.declared.outcome.Outcome.TheVariants.{Accepted, AcceptedInPlace, Opened}
use Rattle.rsl_session.specs.Past.{Past, entry_at}
use Rattle.rsl_session.specs.Clock.{clock}

-- whether an event opened a link
unfoldable pub opens : Outcome → Bool
opens (Accepted number) = true
opens (AcceptedInPlace number yielded) = true
opens Opened = true
opens _ = false

-- the links of a past, in the order in which they opened
unfoldable pub links : Past → List ℕ
links [] = []
links (entry ∷ past) =
    if opens entry.outcome then links past ++ suc (length past) ∷ [] else links past

-- the access server of an act
unfoldable pub nas_of : Act → Option Nas
nas_of (Ask key nas station) = Some nas
nas_of (Alive nas session bundle class station) = Some nas
nas_of (Stop nas session) = Some nas
nas_of (Sweep nas delay) = Some nas
nas_of Tick = None

-- the access server of a link
unfoldable pub nas_at : ℕ → Past → Option Nas
nas_at link past = option_and_then (λ entry. nas_of entry.event.act) (entry_at link past)

-- the clock when a link opened
unfoldable pub opened_at : ℕ → Past → ℕ
opened_at link [] = 0
opened_at link (entry ∷ past) =
    if link == suc (length past) then clock (entry ∷ past) else opened_at link past

-- the accept number that an event gave
unfoldable pub number_of : Outcome → Option ℕ
number_of (Accepted number) = Some number
number_of (AcceptedInPlace number yielded) = Some number
number_of _ = None

-- the accept number of a link that an ask opened
unfoldable pub number_at : ℕ → Past → Option ℕ
number_at link past = option_and_then (λ entry. number_of entry.outcome) (entry_at link past)
