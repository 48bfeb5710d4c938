use Rattle.std.proofs.Common.{take}
use Rattle.rld_folder.specs.Newest.{IsNewest}
use Rattle.rld_folder.proofs.newest.newest_generation.Given as goal

-- the best so far is the newest of the files that were looked at
abbrev pub invariant-loop-file : goal.invariant-loop-file
invariant-loop-file l = IsNewest l.limit (take l.file-index l.files) l.best
