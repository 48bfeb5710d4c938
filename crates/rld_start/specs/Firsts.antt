-- The front of a log.
use Rattle.std.specs.Prelude.{◌≡◌, ℕ, Bool, true, false, List, ◌++◌, drop}
use Rattle.rld_log.specs.Frames.{EndsAt, Fits, frame}
use Rattle.rld_start.specs.Lengths.{HasSpoiltLength}

-- two whole frames are at the front
pub record HasTwo (octets first second : List ℕ) : Type 0 where
  pub rest : List ℕ
  pub first_fits : Fits first
  pub second_fits : Fits second
  pub is : octets ≡ frame first ++ (frame second ++ rest)

-- a generation was begun: two frames are at the front, of its header and of its snapshot
pub record IsBegun (octets : List ℕ) : Type 0 where
  pub first : List ℕ
  pub second : List ℕ
  pub two : HasTwo octets first second

-- it was begun, or was not
abbrev pub IsBegunOrNot : Bool → (octets : List ℕ) → Type 0
IsBegunOrNot true octets = IsBegun octets
IsBegunOrNot false octets = IsBegun octets → ⊥

-- after the whole frames there is one whose digest is that of a prefix of what follows its head,
-- and whose length is another
abbrev pub IsSpoilt : (octets : List ℕ) → (at : ℕ) → Type 0
IsSpoilt octets at = ∥ EndsAt octets at ∥₁ × HasSpoiltLength (drop at octets)

-- what follows the whole frames is a torn end: no frame with a spoilt length is there
abbrev pub IsUnspoilt : (octets : List ℕ) → Type 0
IsUnspoilt octets = (at : ℕ) → IsSpoilt octets at → ⊥
