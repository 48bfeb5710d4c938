-- What the loop of a receiver keeps from turn to turn.
use Rattle.std.proofs.Common.{◌≡◌, ℕ, ◌+◌, ◌≤◌, min, false, refl, sym, ap, subst, ◌∙◌, arith}
use Rattle.std.proofs.Math.Nat.{le-min, min-le_right}
use Rattle.rsl_event.specs.declared.meaning.Port.{Port}
use Rattle.rsl_service.specs.Service.{ServiceSeen}
use Rattle.rsl_service.proofs.Calling.{adds_up, none_called, one_received, one_turn, turn_called}
use Rattle.rsl_service.proofs.Serving.{none_served, turn_served}
use Rattle.rsl_service.specs.Counted.{AddsUp, AreCounted, no_counts}
use Rattle.rsl_service.specs.Served.{HasServed, State}
use Rattle.rsl_service.specs.Turned.{HasCalled, HasTurned, counted, is_down}
use Rattle.rsl_service.specs.declared.counts.Counts.{Counts}
use Rattle.rsl_port.specs.declared.datagram_port.Numbers.{Numbers}
use Rattle.rsl_service.specs.declared.counts.Turn.{Turn}

-- after so many turns: they are counted, and where the port tells its datagrams, what came is served
abbrev pub Kept : ServiceSeen → Port → Counts → (turns : ℕ) → (old now : Numbers) → (Tells : Type 0)
    → (start state : State) → Type 0
Kept service port counts turns old now Tells start state =
    (counts.turns ≡ turns)
    × (counts.received ≤ counts.turns)
    × AddsUp counts
    × AreCounted 0 counts old now
    × (Tells → HasServed service port counts start state)

-- before the first turn
pub none_kept : (service : ServiceSeen) (port : Port) (counts : Counts) (numbers : Numbers)
    (Tells : Type 0) (state : State) → counts ≡ no_counts
    → Kept service port counts 0 numbers numbers Tells state state
none_kept service port counts numbers Tells state is =
    subst (λ cs. Kept service port cs 0 numbers numbers Tells state state) (sym is)
    (refl, omega arith, refl, none_called numbers, λ tells. none_served service port state)

-- after a turn more
pub turn_kept : (service : ServiceSeen) (port : Port) (turn : Turn) (counts after : Counts)
    (turns : ℕ) (old mid new : Numbers) (Told Tells : Type 0) (start before state : State)
    → after ≡ counted turn counts → is_down turn ≡ false
    → Kept service port counts turns old mid Told start before → HasCalled turn mid new
    → (Tells → Told) → (Tells → HasTurned service port turn before state)
    → Kept service port after (turns + 1) old new Tells start state
turn_kept service port turn counts after turns old mid new Told Tells start before state is up (t, few, sum, calls, served) called tells turned = (
  ap (λ cs. cs.turns) is ∙ one_turn turn counts ∙ ap (λ n. n + 1) t,
  subst (λ cs. cs.received ≤ cs.turns) (sym is) (one_received turn counts few),
  subst (λ cs. AddsUp cs) (sym is) (adds_up turn counts sum),
  turn_called turn counts after false old mid new is up calls called,
  λ told. turn_served service port turn counts after start before state is (served (tells told)) (turned told),
)

-- a receive more with room for 4,096 octets
pub room_kept : (old mid new len : ℕ) → min old 4096 ≤ mid → len ≡ 4096 → new ≡ min mid len
    → min old 4096 ≤ new
room_kept old mid new len kept is then =
    subst (λ n. min old 4096 ≤ n) (sym then)
    (le-min kept (subst (λ n. min old 4096 ≤ n) (sym is) (min-le_right old 4096)))
