use Rattle.std.proofs.Common.{◌≡◌}
use Rattle.rsl_event.specs.Credential.{has_unchecked_credential}
use Rattle.rsl_event.proofs.credential.has_unchecked_credential.Given as goal

-- those before had no credential
abbrev pub invariant-loop-kind : goal.invariant-loop-kind
invariant-loop-kind l = has_unchecked_credential l.kind-iterator ≡ has_unchecked_credential l.attributes
