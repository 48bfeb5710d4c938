use Rattle.std.proofs.Common.{◌≡◌, ◌++◌, take}
use Rattle.std.specs.List.{flat_map}
use Rattle.rld_counts.specs.Fates.{causes_at}
use Rattle.rld_page.specs.Tables.{other_row}
use Rattle.rld_page.proofs.causes.write_others.Given as goal

-- the rows of the causes that were looked at
abbrev pub invariant-loop-cause : goal.invariant-loop-cause
invariant-loop-cause l = l.html ≡ l.fn.html ++ flat_map (other_row l.counts l.gate) (take l.cause-index (causes_at l.gate))
