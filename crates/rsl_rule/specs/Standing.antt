-- How a link stands: what a past says of the link's end.
use Rattle.std.specs.Prelude.{ℕ, ◌-◌, max, List, Bool, ◌&&◌, ◌||◌, not, nat_le, is_some, is_none, find, Option}
use Rattle.std.specs.List.{list_all}
use Rattle.std.specs.Option.{option_map}
use Rattle.rsl_accounts.specs.declared.rules.Rules.{Rules}
use Rattle.rsl_event.specs.declared.event.Event.{Event}
use Rattle.rsl_event.specs.declared.nas.Nas.{Nas}
use Rattle.rsl_session.specs.Past.{Past}
use Rattle.rsl_session.specs.Clock.{clock}
use Rattle.rsl_session.specs.Touch.{touched_at}
use Rattle.rsl_session.specs.Station.{is_of_station, station_of}
use Rattle.rsl_session.specs.Link.{number_at, opened_at}
use Rattle.rsl_session.specs.Binding.{session_at}
use Rattle.rsl_session.specs.Held.{is_at}
use Rattle.rsl_session.specs.Alive.{is_number}
use Rattle.rsl_rule.specs.declared.standing.Standing.{Standing}
use Rattle.rsl_rule.specs.declared.holding.HeldLink.{HeldLink}
use Rattle.rsl_rule.specs.declared.yielding.Candidates.{Candidates}
use Rattle.rsl_rule.specs.declared.yielding.Candidates.TheVariants.{OfStation, Idle}

unfoldable pub standing_of : ℕ → Past → Standing
standing_of link past =
    record {
      clock = clock past;
      opened = opened_at link past;
      touched = touched_at link past;
      session = session_at link past;
    }

-- the number of the first of some held links that passes a test
abbrev pub link_where : (HeldLink → Bool) → List HeldLink → Option ℕ
link_where test held = option_map (λ (one : HeldLink). one.link) (find test held)

-- whether a link of this standing is idle when an event comes
abbrev pub is_idle_so : Rules → Event → Standing → Bool
is_idle_so rules event standing =
    is_some standing.session
    && nat_le rules.live (max standing.clock event.moment - standing.touched)

-- whether a held link is one of the candidates when an event comes
abbrev pub is_candidate_so : Rules → Past → Event → Candidates → HeldLink → Bool
is_candidate_so rules past event OfStation held =
    is_of_station past (station_of event.act) held.link
is_candidate_so rules past event Idle held = is_idle_so rules event held.standing

-- whether no candidate among these was touched before a moment
abbrev pub is_first_so : Rules → Past → Event → Candidates → List HeldLink → ℕ → Bool
is_first_so rules past event candidates held touched =
    list_all (λ (other : HeldLink). nat_le touched other.standing.touched
    || not (is_candidate_so rules past event candidates other)) held

-- whether one of these links can yield
abbrev pub is_yielding_so : Rules → Past → Event → Candidates → List HeldLink → HeldLink → Bool
is_yielding_so rules past event candidates held one =
    is_candidate_so rules past event candidates one
    && is_first_so rules past event candidates held one.standing.touched

-- whether a held link is a reservation that an alive can take
abbrev pub can_be_taken_so : Past → Nas → Option ℕ → HeldLink → Bool
can_be_taken_so past nas class held =
    is_none held.standing.session && is_at past nas held.link
    && is_number class (number_at held.link past)
