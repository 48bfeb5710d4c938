use Rattle.std.proofs.Common.{◌+◌, false, refl, arith}
use Rattle.rsl_service.proofs.Ticking.{has_worked, more_ticked, none_paused, none_taken, none_ticked, one_paused, one_taken}
use Rattle.rsl_service.proofs.clock.expire_loop.Goals as goal

pub loop-init : goal.loop-init
loop-init g c = (omega arith, none_ticked _ _, none_taken _ _ _, none_paused _)

pub returns-then-not-pause-clause-worked : goal.returns-then-not-pause-clause-worked
returns-then-not-pause-clause-worked g c =
    has_worked _ _ (c.loop.counter + 1) _ false _ _ _ _ _ _ (omega (arith, c.loop-test.true))
    (λ fewer. refl)
    (one_paused _ false _ _ _ c.loop.invariant.3 c.if-not-pause.ensures.said)
    (one_taken _ _ _ _ _ _ _ _ _ _ c.loop.invariant.2 c.tick-done.ensures.turn)

pub loop-preserved : goal.loop-preserved
loop-preserved g c = (
  omega (arith, c.loop.invariant.0, c.tick-done.ensures.one),
  more_ticked _ _ _ _ _ _ _ _ refl c.loop.invariant.1 c.tick-done.ensures.ticked,
  one_taken _ _ _ _ _ _ _ _ _ _ c.loop.invariant.2 c.tick-done.ensures.turn,
  one_paused _ _ _ _ _ c.loop.invariant.3 c.if-not-pause.ensures.said,
)
