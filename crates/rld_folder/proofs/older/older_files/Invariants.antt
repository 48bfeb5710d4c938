use Rattle.std.specs.Prelude.{◌≡◌}
use Rattle.std.proofs.Common.{All, take}
use Rattle.rld_folder.specs.Older.{IsOlder, older_files}
use Rattle.rld_folder.proofs.older.older_files.Given as goal

-- those of the files that were looked at
abbrev pub invariant-loop-file : goal.invariant-loop-file
invariant-loop-file l =
    (l.older.items ≡ older_files l.newest (take l.file-index l.files))
    × All (IsOlder l.newest) l.older.items
