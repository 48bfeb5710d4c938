use Rattle.std.proofs.Common.{◌≡◌, ◌++◌, map, take}
use Rattle.rsl_record.proofs.record.push_lines.Given as goal

abbrev pub invariant-loop-line : goal.invariant-loop-line
invariant-loop-line l = map (λ line. line.now) l.lines.items ≡ map (λ line. line.now) l.initial.lines.items ++ take l.line-index l.more
