use Rattle.std.proofs.Common.{◌≡◌, take}
use Rattle.rld_start.specs.Numbers.{greatest_by, number_of}
use Rattle.rld_start.proofs.number.next_generation.Given as goal

-- the greatest of the files that were looked at
abbrev pub invariant-loop-file : goal.invariant-loop-file
invariant-loop-file l = l.most ≡ greatest_by number_of (take l.file-index l.files)
