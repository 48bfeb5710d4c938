use Rattle.rld_look.specs.Backlog.{IsOfBacklogs}
use Rattle.rld_look.proofs.refusals.Refusals.take.Given as goal

-- what was taken of so many receivers is joined
abbrev pub invariant-loop-backlog : goal.invariant-loop-backlog
invariant-loop-backlog g l = IsOfBacklogs l.backlog-index l.all
