use Rattle.rld_look.proofs.Noting.{noted_empty}
use Rattle.rld_look.proofs.backlog.Backlog.new.Goals as goal

pub returns-clause-noted : goal.returns-clause-noted
returns-clause-noted c = noted_empty _ _ c.new.ensures.items c.new-3.ensures
