-- The state of reading a file from its start.
use Rattle.std.specs.Prelude.{◌≡◌, ℕ, List, ◌++◌}
use Rattle.std.specs.List.{AllByRecursion}
use Rattle.rld_log.specs.Frames.{Fits, frames}

-- the frames of these payloads were passed, and these octets are left
pub record HasPassed (file : List ℕ) (payloads : List (List ℕ)) (rest : List ℕ) : Type 0 where
  pub parts : file ≡ frames payloads ++ rest
  pub fit : AllByRecursion Fits payloads
