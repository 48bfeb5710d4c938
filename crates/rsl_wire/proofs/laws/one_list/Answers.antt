use Rattle.rsl_wire.proofs.AttributeLaws.{one_list}
use Rattle.rsl_wire.proofs.laws.one_list.Goals as goal

pub returns-clause-only : goal.returns-clause-only
returns-clause-only c = one_list
