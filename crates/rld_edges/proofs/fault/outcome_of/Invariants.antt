use Rattle.std.proofs.Common.{◌≡◌, drop}
use Rattle.rld_edges.specs.Fault.{fault_in, gravest, gravest_after}
use Rattle.rld_edges.proofs.fault.outcome_of.Given as goal

abbrev pub invariant-loop-one : goal.invariant-loop-one
invariant-loop-one l = gravest l.ended ≡ gravest_after (fault_in l.outcome) (drop l.one-index l.ended)
