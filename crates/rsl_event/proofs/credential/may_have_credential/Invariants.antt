use Rattle.std.proofs.Common.{◌≡◌, length}
use Rattle.rsl_wire.specs.Attributes.{attribute_list}
use Rattle.rsl_event.specs.Credential.{may_have_credential}
use Rattle.rsl_event.proofs.credential.may_have_credential.Given as goal

-- those before have no credential
abbrev pub invariant-loop-rest : goal.invariant-loop-rest
invariant-loop-rest l = may_have_credential (attribute_list l.rest) ≡ may_have_credential (attribute_list l.octets)

abbrev pub decreases-loop-rest : goal.decreases-loop-rest
decreases-loop-rest l = length l.rest
