use Rattle.std.proofs.Common.{◌≡◌, ◌++◌, length}
use Rattle.std.specs.List.{flat_map}
use Rattle.rsl_account_file.specs.File.{staying}
use Rattle.rsl_account_file.proofs.replies.push_staying.Given as goal

-- what is added, and what is left to add
abbrev pub invariant-loop-front : goal.invariant-loop-front
invariant-loop-front l = l.octets.items ++ flat_map (staying l.own) l.front ≡ l.fn.octets.items ++ flat_map (staying l.own) l.initial.front

abbrev pub decreases-loop-front : goal.decreases-loop-front
decreases-loop-front l = length l.front
