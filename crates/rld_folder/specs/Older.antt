-- Which files of a folder no start needs any more, and how long they are kept.
use Rattle.std.specs.Prelude.{◌≡◌, ℕ, ◌+◌, ◌*◌, ◌^◌, ◌<◌, Bool, IsTrue, true, false, nat_le, sum_by, List, [], ◌∷◌, if◌then◌else◌}
use Rattle.std.specs.List.{filter}
use Rattle.std.specs.List.Sorted.{IsPermutation, IsSorted}
use Rattle.std.specs.Ordering.{nat_cmp, ordering_then}
use Rattle.std.specs.declared.cmp.Ordering.{Ordering}
use Rattle.rld_folder.specs.Newest.{Precedes, precedes}
use Rattle.rld_folder.specs.declared.name.Generation.{Generation}
use Rattle.rld_folder.specs.declared.name.Generation.TheVariants.{Former, Numbered}
use Rattle.rld_folder.specs.declared.name.FileName.{FileName}
use Rattle.rld_folder.specs.declared.name.FileName.TheVariants.{Lock, FormerTable, Log}
use Rattle.rld_folder.specs.declared.older.ArchivedLog.{ArchivedLog}

-- counted by one number, in no era
abbrev pub is_numbered : Generation → Bool
is_numbered (Former era number) = false
is_numbered (Numbered number) = true

-- no start needs it once the log of the newest generation is on the disk: a log before that one; and, where the newest
-- generation is of no era, a table of one
abbrev pub IsOlder : (newest : Generation) → FileName → Type 0
IsOlder newest Lock = ⊥
IsOlder newest (FormerTable era) = IsTrue (is_numbered newest)
IsOlder newest (Log generation) = Precedes generation newest

-- `IsOlder` as a test
abbrev pub is_older : (newest : Generation) → FileName → Bool
is_older newest Lock = false
is_older newest (FormerTable era) = is_numbered newest
is_older newest (Log generation) = precedes generation newest

-- those of the files: not the newest log, and none that is newer
abbrev pub older_files : (newest : Generation) → List FileName → List FileName
older_files newest files = filter (is_older newest) files

-- at second `now` a file that last changed at second `changed` is older than `days` days, of 86,400
-- seconds
abbrev pub IsExpired : (days changed now : ℕ) → Type 0
IsExpired days changed now = changed + days * 86400 < now

-- ---- an archive that has a size

-- how many octets logs have together
abbrev pub octets_in : List ArchivedLog → ℕ
octets_in logs = sum_by (λ (log : ArchivedLog). log.octets) logs

-- its place in the order of age: of versions before 0.4 by the era, and then by the number; then those that have one number
abbrev pub age : Generation → ℕ × ℕ × ℕ
age (Former era number) = (0, era, number)
age (Numbered number) = (1, number, 0)

-- two logs by their ages
abbrev pub by_age : ArchivedLog → ArchivedLog → Ordering
by_age one other =
    ordering_then
    (ordering_then (nat_cmp (age one.generation).0 (age other.generation).0)
    (nat_cmp (age one.generation).1 (age other.generation).1))
    (nat_cmp (age one.generation).2 (age other.generation).2)

-- of logs, the oldest first: the first ones, until what is left is within the limit
abbrev pub excess : (limit : ℕ) → List ArchivedLog → List Generation
excess limit [] = []
excess limit (log ∷ logs) =
    if nat_le (octets_in (log ∷ logs)) limit then [] else log.generation ∷ excess limit logs

-- these go, the oldest first, of logs that have fewer than 2^64 octets together
abbrev pub AreExcess : (limit : ℕ) → List ArchivedLog → List Generation → Type 0
AreExcess limit logs gone =
    (sorted : List ArchivedLog) × IsPermutation logs sorted × IsSorted by_age sorted
    × (octets_in sorted < 2 ^ 64 → gone ≡ excess limit sorted)
