use Rattle.std.proofs.Common.{All, List, Some, subst, sym}
use Rattle.rld_start.specs.Founds.{IsLookAt, IsPassed}
use Rattle.rld_start.specs.declared.look.Unbegun.{Unbegun}
use Rattle.rld_start.proofs.Passed.{counts_among, one_passed}
use Rattle.rld_start.proofs.newest.newest_begun.Goals as goal

pub returns-in-Begun : goal.returns-in-Begun
returns-in-Begun g c =
    counts_among c.loop.later c.args.names.now c.in-Some.generation c.loop.passed.items c.in-Begun.begun
    c.in-Some.ensures c.loop.invariant (subst (IsLookAt c.in-Some.generation) c.in-Begun.is c.in_ok-begun.ensures)

pub loop-preserved : goal.loop-preserved
loop-preserved g c =
    subst (λ (items : List Unbegun). All (IsPassed (Some c.in-Some.generation) items) c.args.names.now)
    (sym c.in-Ok.ensures.items)
    (one_passed c.loop.later c.args.names.now c.in-Some.generation c.loop.passed.items c.in-Unbegun.unbegun
    c.in-Some.ensures c.loop.invariant
    (subst (IsLookAt c.in-Some.generation) c.in-Unbegun.is c.in_ok-begun.ensures))
