-- The sessions of an account, as looks at its book find them: when each was bound, last touched and
-- gone, and by what.
--
-- A session is what a link is bound to. A reservation that no Start takes is none.
use Rattle.std.specs.Prelude.{ℕ, ◌+◌, ◌-◌, List, [], ◌∷◌, ◌++◌, Bool, nat_le, find, if◌then◌else◌, Option, Some, None}
use Rattle.std.specs.List.{flat_map, list_any}
use Rattle.std.specs.Option.{option_map}
use Rattle.rsl_accounts.specs.declared.rules.Rules.{Rules}
use Rattle.rsl_event.specs.declared.event.Act.{Act}
use Rattle.rsl_event.specs.declared.event.Act.TheVariants as acts
use Rattle.rsl_session.specs.Book.{Book, BookLink, Holder, Reserved, Bound}
use Rattle.rsl_session.specs.BookLinks.{is_link_of}
use Rattle.rsl_session.specs.Same.{same_session}
use Rattle.rsl_session.specs.declared.session.Session.{Session}
use Rattle.rld_export.specs.declared.session.End.{End}
use Rattle.rld_export.specs.declared.session.Ended.{Ended}
use Rattle.rld_export.specs.declared.session.Held.{Held}
use Rattle.rld_export.specs.declared.session.Why.{Why}
use Rattle.rld_export.specs.declared.session.Why.TheVariants.{Stop, Off, Silent, Yielded}

-- ---- what the clock ends

-- whether the link of a session lapses by this clock, if nothing touches it
unfoldable pub lapses : Rules → (now : ℕ) → Held → Bool
lapses rules now held = nat_le (rules.live + rules.grace) (now - held.seen)

-- the session, if it goes on
abbrev pub still_one : Rules → (now : ℕ) → Held → List Held
still_one rules now held = if lapses rules now held then [] else held ∷ []

-- its end, if its link has lapsed: at the second when it lapsed, whenever that was found
abbrev pub silent_one : Rules → (now : ℕ) → Held → List Ended
silent_one rules now held =
    if lapses rules now held
    then record { held = held; end = record { at = held.seen + rules.live + rules.grace; why = Silent } } ∷ []
    else []

-- the sessions that go on at a clock, and the ends of the others
abbrev pub still : Rules → (now : ℕ) → List Held → List Held
still rules now helds = flat_map (still_one rules now) helds

abbrev pub silent : Rules → (now : ℕ) → List Held → List Ended
silent rules now helds = flat_map (silent_one rules now) helds

-- ---- what a look at the links finds

-- whether a session is that of one of some links
abbrev pub is_bound_in : List BookLink → Session → Bool
is_bound_in links session = list_any (is_link_of session) links

-- the end of a session that has no link any more
abbrev pub gone_one : End → List BookLink → Held → List Ended
gone_one end links held =
    if is_bound_in links held.session then []
    else record { held = held; end = end } ∷ []

abbrev pub gone : End → List BookLink → List Held → List Ended
gone end links helds = flat_map (gone_one end links) helds

-- when a session began, if some sessions have it
abbrev pub began_before : List Held → Session → Option (Option ℕ)
began_before helds session =
    option_map (λ (held : Held). held.began)
    (find (λ (held : Held). same_session held.session session) helds)

abbrev pub began_or : (began : Option ℕ) → Option (Option ℕ) → Option ℕ
began_or began None = began
began_or began (Some before) = before

-- when a session began: as it did if it was held before, else at `began`
abbrev pub began_in : (began : Option ℕ) → List Held → Session → Option ℕ
began_in began helds session = began_or began (began_before helds session)

abbrev pub held_by : (began : Option ℕ) → List Held → (touched : ℕ) → Holder → List Held
held_by began helds touched (Reserved number) = []
held_by began helds touched (Bound session) =
    record { session = session; began = began_in began helds session; seen = touched } ∷ []

-- the session of a link, if it is bound
abbrev pub held_one : (began : Option ℕ) → List Held → BookLink → List Held
held_one began helds link = held_by began helds link.touched link.holder

-- the sessions that are held with these links, where some were held before
abbrev pub found : (began : Option ℕ) → List Held → List BookLink → List Held
found began helds links = flat_map (held_one began helds) links

-- ---- an event of an account

-- why a session ended that has no link after an event, and had not lapsed before it
abbrev pub why_of : Act → Why
why_of (acts.Ask key nas station) = Yielded
why_of (acts.Alive nas session bundle class station) = Yielded
why_of (acts.Stop nas session) = Stop
why_of (acts.Sweep nas delay) = Off
why_of acts.Tick = Silent

-- the ends that a look at the book after an event finds, and the sessions that are held then
unfoldable pub ends_at : Rules → Book → Why → List Held → List Ended
ends_at rules book why helds =
    silent rules book.clock helds
    ++ gone (record { at = book.clock; why = why }) book.links (still rules book.clock helds)

unfoldable pub held_at : Rules → Book → List Held → List Held
held_at rules book helds = found (Some book.clock) (still rules book.clock helds) book.links
