use Rattle.std.proofs.Common.{take, All}
use Rattle.rld_start.specs.Gaps.{IsEarlier}
use Rattle.rld_start.proofs.gap.later_log.Given as goal

-- each file that was looked at is no log, or an earlier one
abbrev pub invariant-loop-file : goal.invariant-loop-file
invariant-loop-file l = All (IsEarlier l.begun) (take l.file-index l.archived)
