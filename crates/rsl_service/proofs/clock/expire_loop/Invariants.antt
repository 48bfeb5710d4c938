use Rattle.std.proofs.Common.{◌≤◌, true}
use Rattle.rsl_service.proofs.Ticking.{HasPaused, Taken}
use Rattle.rsl_service.specs.Ticked.{AreTicked}
use Rattle.rsl_service.proofs.clock.expire_loop.Given as goal

-- the turns so far have made their ticks, at the moments that the clock has shown, and each pause
-- answered that another turn follows
abbrev pub invariant-loop : goal.invariant-loop
invariant-loop g l =
    (l.done ≤ l.counter)
    × AreTicked l.service.config.settings.shards l.done l.counter l.fn.pass.receipts l.pass.receipts
    × Taken l.service.config.settings.shards l.done l.counter
    (g.C.Clock.shown l.fn.clock) (g.C.Clock.shown l.clock) l.fn.pass.receipts l.pass.receipts
    × HasPaused l.counter true (g.P.Pause.said l.fn.pause) (g.P.Pause.said l.pause)
