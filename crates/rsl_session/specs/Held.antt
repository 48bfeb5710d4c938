-- A link is held until an event after the one that opened it ends it: the link lapses as the event
-- comes, or the event is a stop of its session, a sweep of its access server that is told no later
-- than the link is old, or an ask to which the link yields.
use Rattle.std.specs.Prelude.{ℕ, List, [], ◌∷◌, length, filter, Bool, false, ◌&&◌, ◌||◌, ◌==◌, not, nat_le, Option, Some, None}
use Rattle.rsl_accounts.specs.declared.rules.Rules.{Rules}
use Rattle.rsl_event.specs.declared.event.Act.{Act}
use Rattle.rsl_event.specs.declared.event.Act.TheVariants.{Stop, Sweep}
use Rattle.rsl_event.specs.declared.event.Event.{Event}
use Rattle.rsl_event.specs.declared.nas.Nas.{Nas}
use Rattle.rsl_session.specs.declared.outcome.Outcome.{Outcome}
use Rattle.rsl_session.specs.declared.outcome.Outcome.TheVariants.{AcceptedInPlace}
use Rattle.rsl_session.specs.Past.{Past}
use Rattle.rsl_session.specs.Same.{same_nas}
use Rattle.rsl_session.specs.Clock.{clock_at}
use Rattle.rsl_session.specs.Sweep.{precedes}
use Rattle.rsl_session.specs.Link.{links, nas_at, opened_at}
use Rattle.rsl_session.specs.Binding.{is_bound_to}
use Rattle.rsl_session.specs.Lapse.{lapses}

-- whether an access server is this one
abbrev pub is_nas : Option Nas → Nas → Bool
is_nas None nas = false
is_nas (Some other) nas = same_nas other nas

-- whether a link is at an access server
unfoldable pub is_at : Past → Nas → ℕ → Bool
is_at past nas link = is_nas (nas_at link past) nas

-- whether an act, now, ends a link: a stop of its session, or a sweep of its access server, if it
-- opened at least the delay ago
unfoldable pub ended_by : Past → (now : ℕ) → Act → ℕ → Bool
ended_by past now (Stop nas session) link =
    is_bound_to past (record { nas = nas; id = session }) link
ended_by past now (Sweep nas delay) link =
    is_at past nas link && precedes (opened_at link past) delay now
ended_by past now _ link = false

-- whether a link ends at an event
unfoldable pub ends : Rules → Past → Event → ℕ → Bool
ends rules past event link = lapses rules past event link || ended_by past (clock_at past event) event.act link

-- whether an event of this outcome makes a link yield
unfoldable pub yields : ℕ → Outcome → Bool
yields link (AcceptedInPlace number yielded) = link == yielded
yields link _ = false

-- whether a link has ended, at some event after the one that opened it
unfoldable pub is_freed : Rules → ℕ → Past → Bool
is_freed rules link [] = false
is_freed rules link (entry ∷ past) =
    is_freed rules link past
    || (nat_le link (length past) &&
    (ends rules past entry.event link || yields link entry.outcome))

-- the links that are held, in the order in which they opened
unfoldable pub held_links : Rules → Past → List ℕ
held_links rules past = filter (λ link. not (is_freed rules link past)) (links past)

-- the links that are still held when an event comes: those that do not lapse then
unfoldable pub held_before : Rules → Past → Event → List ℕ
held_before rules past event =
    filter (λ link. not (lapses rules past event link)) (held_links rules past)
