use Rattle.std.proofs.Common.{◌≡◌, ◌++◌, length}
use Rattle.rsl_account_file.specs.Common.{octets_of}
use Rattle.rsl_account_file.proofs.replies.push_octets.Given as goal

-- what is added, and what is left to add
abbrev pub invariant-loop-attributes : goal.invariant-loop-attributes
invariant-loop-attributes l = l.octets.items ++ octets_of l.attributes ≡ l.fn.octets.items ++ octets_of l.initial.attributes

abbrev pub decreases-loop-attributes : goal.decreases-loop-attributes
decreases-loop-attributes l = length l.attributes
