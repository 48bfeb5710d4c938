-- How each link of a past looks once one more event has come, by what the event did.
use Rattle.std.proofs.Common.{◌≡◌, ℕ, suc, ◌≤◌, ◌∷◌, length, false, refl, arith, eqb}
use Rattle.std.specs.Prelude.{Some, None}
use Rattle.std.proofs.lemmas.Bool.{eq-eqb, ne_eqb}
use Rattle.rsl_accounts.specs.declared.rules.Rules.{Rules}
use Rattle.rsl_event.specs.declared.event.Event.{Event}
use Rattle.rsl_event.specs.declared.nas.Nas.{Nas}
use Rattle.rsl_session.specs.declared.past_event.PastEvent.{PastEvent}
use Rattle.rsl_session.specs.declared.outcome.Outcome.{Outcome}
use Rattle.rsl_session.specs.declared.outcome.Outcome.TheVariants.{Accepted, AcceptedInPlace, Refused, Repeated, Opened, Took, Renewed, Ignored, Over, Passed}
use Rattle.rsl_session.specs.declared.session.Session.{Session}
use Rattle.rsl_session.specs.Past.{Past, entry_at}
use Rattle.rsl_session.specs.Clock.{clock, clock_at}
use Rattle.rsl_session.specs.Link.{nas_at, nas_of, number_at, number_of, opened_at}
use Rattle.rsl_session.specs.Binding.{binds, touches, session_at, session_of, bound_by, bundle_at, bundle_of, bundled_by}
use Rattle.rsl_session.specs.Touch.{touched_at}
use Rattle.rsl_session.specs.Station.{station_at, station_of, stationed_by}
use Rattle.rsl_session.specs.Rule.{IsRuled}
use Rattle.rsl_session.specs.Book.{Reserved, Bound}
use Rattle.rsl_session.specs.BookLinks.{touch, take_for}
use Rattle.rsl_session.specs.BookOf.{link_view}
use Rattle.rsl_session.proofs.Ruled.{bound-later, bundle_at-later, station_at-later}
use Rattle.rsl_session.proofs.BookLists.{or_none}

-- an event with what it did
abbrev pub did : Event → Outcome → PastEvent
did event outcome = record { event = event; outcome = outcome }

-- an older link is where it was, and has its number
older : (link : ℕ) (past : Past) → link ≤ length past → eqb link (suc (length past)) ≡ false
older link past within = ne_eqb link (suc (length past)) (λ same. omega arith)

pub nas_older : (entry : PastEvent) (past : Past) (link : ℕ) → link ≤ length past
    → nas_at link (entry ∷ past) ≡ nas_at link past
unfolding nas_at entry_at
nas_older entry past link within = rw (older link past within) refl

pub number_older : (entry : PastEvent) (past : Past) (link : ℕ) → link ≤ length past
    → number_at link (entry ∷ past) ≡ number_at link past
unfolding number_at entry_at
number_older entry past link within = rw (older link past within) refl

pub opened_older : (entry : PastEvent) (past : Past) (link : ℕ) → link ≤ length past
    → opened_at link (entry ∷ past) ≡ opened_at link past
unfolding opened_at
opened_older entry past link within = rw (older link past within) refl

binds_touched : (link number : ℕ) (outcome : Outcome) → touches link number outcome ≡ false
    → binds link number outcome ≡ false
unfolding binds touches
binds_touched link number (Accepted accept) untouched = refl
binds_touched link number (AcceptedInPlace accept yielded) untouched = refl
binds_touched link number Refused untouched = refl
binds_touched link number (Repeated decision) untouched = refl
binds_touched link number Opened untouched = untouched
binds_touched link number (Took taken) untouched = untouched
binds_touched link number (Renewed renewed) untouched = refl
binds_touched link number Ignored untouched = refl
binds_touched link number Over untouched = refl
binds_touched link number Passed untouched = refl

-- a link that an event does not touch looks as it did
pub view_untouched : (entry : PastEvent) (past : Past) (link : ℕ) → link ≤ length past
    → touches link (suc (length past)) entry.outcome ≡ false
    → link_view (entry ∷ past) link ≡ link_view past link
unfolding link_view session_at bound_by bundle_at bundled_by station_at stationed_by touched_at
view_untouched entry past link within untouched =
    rw (
      nas_older entry past link within,
      number_older entry past link within,
      opened_older entry past link within,
      untouched,
      binds_touched link (suc (length past)) entry.outcome untouched,
      or_none (session_at link past),
      or_none (bundle_at link past),
    ) refl

-- a link that an alive renews is touched by it
pub view_renewed : (event : Event) (past : Past) (link : ℕ) → link ≤ length past
    → link_view (did event (Renewed link) ∷ past) link ≡ touch (clock_at past event) (bundle_of event.act)
    (station_of event.act) (link_view past link)
unfolding link_view touch session_at bound_by bundle_at bundled_by station_at stationed_by touched_at binds touches clock clock_at
view_renewed event past link within =
    rw (
      nas_older (did event (Renewed link)) past link within,
      number_older (did event (Renewed link)) past link within,
      opened_older (did event (Renewed link)) past link within,
      eq-eqb link link refl,
      or_none (session_at link past),
    ) refl

-- a reserved link that an alive takes is bound to its session
pub view_taken : (event : Event) (past : Past) (link : ℕ) (session : Session) → link ≤ length past
    → session_at link past ≡ None → session_of event.act ≡ Some session
    → link_view (did event (Took link) ∷ past) link ≡ take_for session (clock_at past event)
    (bundle_of event.act) (station_of event.act) (link_view past link)
unfolding link_view take_for touch session_at bound_by bundle_at bundled_by station_at stationed_by touched_at binds touches clock clock_at
view_taken event past link session within reserved alive =
    rw (nas_older (did event (Took link)) past link within, number_older (did event (Took link)) past link within, opened_older (did event (Took link)) past link within, eq-eqb link link refl, reserved, alive) refl

-- a new link, by the act that opened it
pub view_accepted : (rules : Rules) (event : Event) (past : Past) (number : ℕ) (nas : Nas)
    → IsRuled rules past → nas_of event.act ≡ Some nas → bundle_of event.act ≡ None
    → link_view (did event (Accepted number) ∷ past) (suc (length past))
    ≡ record { nas = nas; holder = Reserved number; bundle = None; station = station_of event.act; opened = clock_at past event; touched = clock_at past event }
unfolding link_view nas_at number_at opened_at entry_at number_of session_at bound_by bundle_at bundled_by station_at stationed_by touched_at binds touches clock clock_at
view_accepted rules event past number nas ruled at alone =
    rw (
      eq-eqb (suc (length past)) (suc (length past)) refl,
      bound-later rules past (suc (length past)) ruled (omega arith),
      bundle_at-later rules past (suc (length past)) ruled (omega arith),
      station_at-later rules past (suc (length past)) ruled (omega arith),
      or_none (station_of event.act),
      at,
      alone,
    ) refl

pub view_accepted_in_place : (rules : Rules) (event : Event) (past : Past) (number yielded : ℕ) (nas : Nas)
    → IsRuled rules past → nas_of event.act ≡ Some nas → bundle_of event.act ≡ None
    → link_view (did event (AcceptedInPlace number yielded) ∷ past) (suc (length past))
    ≡ record { nas = nas; holder = Reserved number; bundle = None; station = station_of event.act; opened = clock_at past event; touched = clock_at past event }
unfolding link_view nas_at number_at opened_at entry_at number_of session_at bound_by bundle_at bundled_by station_at stationed_by touched_at binds touches clock clock_at
view_accepted_in_place rules event past number yielded nas ruled at alone =
    rw (
      eq-eqb (suc (length past)) (suc (length past)) refl,
      bound-later rules past (suc (length past)) ruled (omega arith),
      bundle_at-later rules past (suc (length past)) ruled (omega arith),
      station_at-later rules past (suc (length past)) ruled (omega arith),
      or_none (station_of event.act),
      at,
      alone,
    ) refl

pub view_opened : (rules : Rules) (event : Event) (past : Past) (session : Session) → IsRuled rules past
    → nas_of event.act ≡ Some session.nas → session_of event.act ≡ Some session
    → link_view (did event Opened ∷ past) (suc (length past))
    ≡ record { nas = session.nas; holder = Bound session; bundle = bundle_of event.act; station = station_of event.act; opened = clock_at past event; touched = clock_at past event }
unfolding link_view nas_at number_at opened_at entry_at number_of session_at bound_by bundle_at bundled_by station_at stationed_by touched_at binds touches clock clock_at
view_opened rules event past session ruled at alive =
    rw (
      eq-eqb (suc (length past)) (suc (length past)) refl,
      bound-later rules past (suc (length past)) ruled (omega arith),
      bundle_at-later rules past (suc (length past)) ruled (omega arith),
      station_at-later rules past (suc (length past)) ruled (omega arith),
      or_none (station_of event.act),
      at,
      alive,
    ) refl
