use Rattle.std.proofs.Common.{◌≡◌, length}
use Rattle.rld_attributes.specs.Value.{without_zeros}
use Rattle.rld_attributes.proofs.value.without_zeros.Given as goal

abbrev pub invariant-loop-digits : goal.invariant-loop-digits
invariant-loop-digits l = without_zeros l.digits ≡ without_zeros l.initial.digits

abbrev pub decreases-loop-digits : goal.decreases-loop-digits
decreases-loop-digits l = length l.digits
