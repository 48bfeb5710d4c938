use Rattle.rsl_wire.proofs.AttributeLaws.{one_offset, no_list}
use Rattle.rsl_wire.proofs.laws.one_offset.Goals as goal

pub returns-clause-same : goal.returns-clause-same
returns-clause-same c = one_offset

pub returns-clause-no_list : goal.returns-clause-no_list
returns-clause-no_list c = no_list
