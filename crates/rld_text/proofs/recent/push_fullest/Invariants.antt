use Rattle.std.proofs.Common.{◌≡◌, ◌++◌, drop}
use Rattle.rld_text.specs.Recent.{full_lines}
use Rattle.rld_text.proofs.recent.push_fullest.Given as goal

-- what is written, and what is left of it
abbrev pub invariant-loop-account : goal.invariant-loop-account
invariant-loop-account l =
    l.fn.out.items ++ full_lines 5 l.fullest ≡ l.out.items ++ full_lines l.most (drop l.account-index l.fullest)
