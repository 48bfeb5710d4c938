-- The numbers of the logs of a folder. A new one gets a greater one.
use Rattle.std.specs.Prelude.{ℕ, ◌&&◌, ◌||◌, ◌==◌, Bool, false, not, nat_lt, List, if◌then◌else◌}
use Rattle.std.specs.List.{fold, list_any}
use Rattle.rld_folder.specs.Older.{is_numbered}
use Rattle.rld_folder.specs.declared.name.FileName.{FileName}
use Rattle.rld_folder.specs.declared.name.FileName.TheVariants.{Lock, FormerTable, Log}
use Rattle.rld_folder.specs.declared.name.Generation.{Generation}
use Rattle.rld_folder.specs.declared.name.Generation.TheVariants.{Former, Numbered}

-- the greater of two numbers
abbrev pub greatest_of : (some other : ℕ) → ℕ
greatest_of some other = if nat_lt some other then other else some

-- the greatest of the numbers of elements, or 0 if there is none
abbrev pub greatest_by : {X : Type 0} → (number_of : X → ℕ) → List X → ℕ
greatest_by number_of xs = fold (λ most x. greatest_of most (number_of x)) 0 xs

-- the number of a generation, or 0 if a version before 0.4 named it
abbrev pub number_in : Generation → ℕ
number_in (Former era number) = 0
number_in (Numbered number) = number

-- the number of the generation whose log a file is, or 0 for any other file
abbrev pub number_of : FileName → ℕ
number_of Lock = 0
number_of (FormerTable era) = 0
number_of (Log generation) = number_in generation

-- ---- files of which no generation was begun

-- a log with one number
abbrev pub is_counted : FileName → Bool
is_counted Lock = false
is_counted (FormerTable era) = false
is_counted (Log generation) = is_numbered generation

-- the first of these
abbrev pub is_one : FileName → Bool
is_one file = number_of file == 1

-- not the first generation of its era
abbrev pub is_later : Generation → Bool
is_later (Former era number) = nat_lt 1 number
is_later (Numbered number) = false

-- an old log that is not the first of its era
abbrev pub is_later_log : FileName → Bool
is_later_log Lock = false
is_later_log (FormerTable era) = false
is_later_log (Log generation) = is_later generation

-- A new history may begin beside these files, of which none was begun: there is no log with one number, or the
-- first of them is there too; and each old log is the first of its era.
abbrev pub may_begin : List FileName → Bool
may_begin files =
    not (list_any is_later_log files) && (list_any is_one files || not (list_any is_counted files))
