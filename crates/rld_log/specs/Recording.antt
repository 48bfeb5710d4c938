-- What the calls that append frames leave of a log.
use Rattle.std.specs.Prelude.{◌≡◌, ◌⊎◌, ℕ, List, [], ◌∷◌, ◌++◌}
use Rattle.std.specs.List.{AllByRecursion}
use Rattle.rld_log.specs.declared.log.Ending.{Ending}
use Rattle.rld_log.specs.Frames.{Fits, HasPayloads, frames}
use Rattle.rld_log.specs.Log.{Only}

-- the log holds the frames of these payloads and nothing else, and a crash leaves just that
pub record IsSettled (seen : List ℕ) (may_leave : Ending → List ℕ → Type 0) (payloads : List (List ℕ)) : Type 0 where
  pub whole : seen ≡ frames payloads
  pub fit : AllByRecursion Fits payloads
  pub durable : Only seen may_leave

-- a file has the payloads from before a call, with that of the call or without it
abbrev pub IsBeforeOrAfter : (before : List (List ℕ)) → (payload : List ℕ) → List ℕ → Type 0
IsBeforeOrAfter before payload file = HasPayloads file before ⊎ HasPayloads file (before ++ payload ∷ [])

-- each crash of this kind leaves such a file
abbrev pub LeavesEither : (may_leave : List ℕ → Type 0) → (before : List (List ℕ)) → (payload : List ℕ) → Type 0
LeavesEither may_leave before payload = (left : List ℕ) → may_leave left → IsBeforeOrAfter before payload left
