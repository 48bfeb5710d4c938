use Rattle.std.proofs.Common.{◌≡◌}
use Rattle.rsl_event.specs.Accounting.{class_in}
use Rattle.rsl_event.proofs.accounting.class_in.Given as goal

-- those before had no number of this server
abbrev pub invariant-loop-kind : goal.invariant-loop-kind
invariant-loop-kind l = class_in l.boot l.kind-iterator ≡ class_in l.boot l.attributes
