-- The refusals that wait for their lines, and the numbers of those that get none.
use Rattle.std.specs.Prelude.{◌≡◌, ◌≢◌, ℕ, ◌+◌, ◌<◌, ◌≤◌, List, [], ◌∷◌, ◌++◌, length, map}
use Rattle.rld_counts.specs.Counts.{count_in, counts_of}
use Rattle.rld_counts.specs.Fates.{fate_number}
use Rattle.rld_counts.specs.Tally.{how_many, kept}
use Rattle.rld_counts.specs.declared.fate.Fate.{Fate}
use Rattle.rld_look.specs.declared.backlog.Noted.{Noted}
use Rattle.rld_look.specs.declared.backlog.Noted.TheVariants.{Waits, LeftOut, NoMemory}
use Rattle.rld_look.specs.declared.backlog.TheConstants.{MOST_LINES}
use Rattle.rld_look.specs.declared.refusal.Refusal.{Refusal}

-- the refusals that wait, oldest first, and the numbers left out of each cause
pub record BacklogSeen : Type 0 where
  pub waiting : List Refusal
  pub left_out : List ℕ

abbrev pub empty_backlog : BacklogSeen
empty_backlog = record { waiting = []; left_out = counts_of [] }

abbrev pub fates_of : List Refusal → List Fate
fates_of refusals = map (λ one. one.fate) refusals

-- how many of some fates are this one
abbrev pub of_cause : Fate → List Fate → ℕ
of_cause fate fates = how_many (fate_number fate) (map fate_number fates)

-- the number of refusals of a cause that wait
abbrev pub lines_of : Fate → BacklogSeen → ℕ
lines_of fate backlog = of_cause fate (fates_of backlog.waiting)

-- another one ended so, and no other count changed
abbrev pub IsCounted : Fate → (old new : List ℕ) → Type 0
IsCounted fate old new =
    (count_in new fate ≡ kept (count_in old fate + 1))
    × ((other : Fate) → other ≢ fate → count_in new other ≡ count_in old other)

-- it is left out, and what waits is as before
abbrev pub IsLeftOut : Fate → (old new : BacklogSeen) → Type 0
IsLeftOut fate old new = (new.waiting ≡ old.waiting) × IsCounted fate old.left_out new.left_out

-- at most `MOST_LINES` of a cause wait: what comes after them is left out
abbrev pub IsNoted : Refusal → (old new : BacklogSeen) → Noted → Type 0
IsNoted refusal old new Waits =
    (lines_of refusal.fate old < MOST_LINES) × (new.waiting ≡ old.waiting ++ refusal ∷ []) × (new.left_out ≡ old.left_out)
IsNoted refusal old new LeftOut = (MOST_LINES ≤ lines_of refusal.fate old) × IsLeftOut refusal.fate old new
IsNoted refusal old new NoMemory = (lines_of refusal.fate old < MOST_LINES) × IsLeftOut refusal.fate old new

-- each of these was noted, one after the other: it waits last, as it is, or it is left out
abbrev pub AreNoted : List Refusal → (old new : BacklogSeen) → Type 0
AreNoted [] old new = new ≡ old
AreNoted (refusal ∷ others) old new =
    (mid : BacklogSeen) × (noted : Noted) × IsNoted refusal old mid noted × AreNoted others mid new

-- What was taken from another backlog is added: its refusals were noted, and the numbers of those
-- that were left out there are added to those that are left out here.
pub record IsJoined (taken old new : BacklogSeen) : Type 0 where
  pub mid : BacklogSeen
  pub noted : AreNoted taken.waiting old mid
  pub waiting : new.waiting ≡ mid.waiting
  pub left_out : (fate : Fate) → count_in new.left_out fate ≡ kept (count_in mid.left_out fate + count_in taken.left_out fate)

-- what was taken from some backlogs is added, one after the other
abbrev pub AreJoined : (each : List BacklogSeen) → (old new : BacklogSeen) → Type 0
AreJoined [] old new = new ≡ old
AreJoined (taken ∷ others) old new = (mid : BacklogSeen) × IsJoined taken old mid × AreJoined others mid new

-- what was taken from so many backlogs, joined in their order, and nothing else
pub record IsOfBacklogs (number : ℕ) (taken : BacklogSeen) : Type 0 where
  pub each : List BacklogSeen
  pub all : length each ≡ number
  pub joined : AreJoined each empty_backlog taken

-- of all that was noted since it was empty, what is not left out waits, of each cause; and no more
-- than the most of a cause
pub record HasNoted (fates : List Fate) (backlog : BacklogSeen) : Type 0 where
  pub all : (fate : Fate) → kept (of_cause fate fates) ≡ kept (lines_of fate backlog + count_in backlog.left_out fate)
  pub few : (fate : Fate) → lines_of fate backlog ≤ MOST_LINES
