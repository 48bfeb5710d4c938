use Rattle.std.proofs.Common.{◌≡◌, ◌++◌, take}
use Rattle.rld_look.proofs.lately.push_copies.Given as goal

-- copies of those that were looked at
abbrev pub invariant-loop-refusal : goal.invariant-loop-refusal
invariant-loop-refusal l = l.copies.items ≡ l.fn.copies.items ++ take l.refusal-index l.refusals
