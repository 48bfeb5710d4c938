use Rattle.std.proofs.Common.{rules}
use Rattle.rld_start.proofs.Ends.{none_spoilt}
use Rattle.rld_start.proofs.first.check_torn.Goals as goal

pub returns-clause-unspoilt : goal.returns-clause-unspoilt
returns-clause-unspoilt c =
    none_spoilt c.args.frames.now.octets.items c.args.frames.now.whole (search rules) (search rules)
