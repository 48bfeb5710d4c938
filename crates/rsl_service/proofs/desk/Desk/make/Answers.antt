use Rattle.rsl_service.proofs.Ruled.{ruled_line}
use Rattle.rsl_service.proofs.desk.Desk.make.Goals as goal

pub invariant_of-self-2-clause-ruled : goal.invariant_of-self-2-clause-ruled
invariant_of-self-2-clause-ruled g c =
    ruled_line c.args.self.now.shard c.step_ready.new.self c.args.moved c.in-Ok.decision g.L.Tally.books c.in-Ok.ensures.line c.args.self.now.ruled
