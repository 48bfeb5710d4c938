-- Who may replace the files of a folder.
use Rattle.std.specs.Prelude.{ℕ, Bool, not, ◌==◌, ◌&&◌, ◌||◌, bit_and, List, codes, length, Option, Some, None, if◌then◌else◌}
use Rattle.std.specs.Path.{path_parent}

-- whether everybody can make and remove files in a folder of this mode
abbrev pub others_write : (mode : ℕ) → Bool
others_write mode = not (bit_and mode 2 == 0)

-- whether a group can that is neither the system's, 0, nor the owner's own, which has his number
abbrev pub group_writes : (mode owner group : ℕ) → Bool
group_writes mode owner group = not (bit_and mode 16 == 0) && not (group == 0) && not (group == owner)

-- whether others than the owner of a folder can replace the files in it: not where it is sticky, as then nobody
-- removes or renames what is another's
abbrev pub is_open : (mode owner group : ℕ) → Bool
is_open mode owner group =
    bit_and mode 512 == 0 && (others_write mode || group_writes mode owner group)

-- the folder of a file: the one that it is run in, where its name has none
abbrev pub folder_or_here : Option (List ℕ) → List ℕ
folder_or_here None = codes "."
folder_or_here (Some folder) = if length folder == 0 then codes "." else folder

abbrev pub folder_of : (name : List ℕ) → List ℕ
folder_of name = folder_or_here (path_parent name)
