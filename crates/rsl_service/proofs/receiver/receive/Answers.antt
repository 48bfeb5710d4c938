use Rattle.std.proofs.Common.{true, sym, ap, subst, ◌∙◌, arith}
use Rattle.rsl_service.proofs.Calling.{adds_up, one_turn, turn_called}
use Rattle.std.proofs.Math.Nat.{min-le_left}
use Rattle.rsl_service.proofs.Keeping.{none_kept, room_kept, turn_kept}
use Rattle.rsl_service.proofs.Serving.{turn_served}
use Rattle.rsl_service.specs.Counted.{AddsUp}
use Rattle.rsl_service.proofs.receiver.receive.Goals as goal

pub loop-init : goal.loop-init
loop-init g c =
    (none_kept _ _ _ _ _ _ c.new-counts.ensures, λ told. min-le_left _ _, c.in-Ok.ensures.len)

pub returns-then-is_down-clause-calls : goal.returns-then-is_down-clause-calls
returns-then-is_down-clause-calls g c =
    turn_called c.turn-turn.result c.loop.counts c.count.new.self true _ _ _ c.count.ensures
    (sym c.is_down.ensures ∙ c.if-is_down.true) c.loop.invariant.0.3 c.turn-turn.ensures.calls

pub returns-then-is_down-clause-served : goal.returns-then-is_down-clause-served
returns-then-is_down-clause-served g c = λ told.
    turn_served _ _ c.turn-turn.result c.loop.counts c.count.new.self _ _ _ c.count.ensures
    (c.loop.invariant.0.4 (c.turn-turn.ensures.telling told)) (c.turn-turn.ensures.turned told)

pub loop-preserved : goal.loop-preserved
loop-preserved g c = (
  turn_kept _ _ c.turn-turn.result c.loop.counts c.count.new.self _ _ _ _ _ _ _ _ _ c.count.ensures
      (sym c.is_down.ensures ∙ c.if-is_down.false) c.loop.invariant.0 c.turn-turn.ensures.calls
      c.turn-turn.ensures.telling c.turn-turn.ensures.turned,
  λ told. room_kept _ _ _ _ (c.loop.invariant.1 (c.turn-turn.ensures.telling told))
      (c.deref_mut.ensures.len ∙ c.loop.invariant.2) (c.turn-turn.ensures.room told),
  c.loop.invariant.2,
)

pub returns-then-is_down-clause-most : goal.returns-then-is_down-clause-most
returns-then-is_down-clause-most g c =
    let turns = ap (λ cs. cs.turns) c.count.ensures ∙ one_turn c.turn-turn.result c.loop.counts in
    omega (arith, turns, c.loop.invariant.0.0, c.loop-test.true)

pub returns-then-is_down-clause-sum : goal.returns-then-is_down-clause-sum
returns-then-is_down-clause-sum g c =
    subst (λ cs. AddsUp cs) (sym c.count.ensures)
    (adds_up c.turn-turn.result c.loop.counts c.loop.invariant.0.2)

pub returns-then-is_down-clause-room : goal.returns-then-is_down-clause-room
returns-then-is_down-clause-room g c = λ told.
    room_kept _ _ _ _ (c.loop.invariant.1 (c.turn-turn.ensures.telling told))
    (c.deref_mut.ensures.len ∙ c.loop.invariant.2) (c.turn-turn.ensures.room told)
