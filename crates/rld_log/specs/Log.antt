-- What the calls of a log do to it, and what a crash may leave of it.
use Rattle.std.specs.Prelude.{◌≡◌, ◌⊎◌, ℕ, ◌<◌, List, ◌++◌, length, take}
use Rattle.rld_log.specs.declared.log.Ending.{Ending}
use Rattle.rld_log.specs.declared.log.Ending.TheVariants.{Kill, PowerLoss}
use Rattle.rld_log.specs.Frames.{Fits, IsTorn, frame}

-- a beginning of octets, and not all of them
pub record Shortens (octets tail : List ℕ) : Type 0 where
  pub count : ℕ
  pub few : count < length octets
  pub is : tail ≡ take count octets

-- What is left of octets whose write was cut short: after a kill a beginning of them, after a loss
-- of power what the log says.
abbrev pub Tears : (by_power : List ℕ → List ℕ → Type 0) → Ending → List ℕ → List ℕ → Type 0
Tears by_power Kill = Shortens
Tears by_power PowerLoss = by_power

-- no torn write of a frame passes for one, nor hides one: the premise on MD5
abbrev pub Detects : (tears : List ℕ → List ℕ → Type 0) → Type 0
Detects tears = (payload tail : List ℕ) → Fits payload → tears (frame payload) tail → IsTorn tail

-- the premise of a statement on a loss of power; one on a kill needs none
abbrev pub Premise : (by_power : List ℕ → List ℕ → Type 0) → Ending → Type 0
Premise by_power Kill = Unit {0}
Premise by_power PowerLoss = Detects by_power

-- an append that a crash may cut short: all of the octets, or what is left of a torn write of them
pub record Appends (tears : List ℕ → List ℕ → Type 0) (octets old new : List ℕ) : Type 0 where
  pub tail : List ℕ
  pub added : new ≡ old ++ tail
  pub torn : (tail ≡ octets) ⊎ tears octets tail

-- an append that a crash leaves whole
abbrev pub Adds : (octets old new : List ℕ) → Type 0
Adds octets old new = new ≡ old ++ octets

-- a cut that a crash may undo
abbrev pub Cuts : (len : ℕ) → (old new : List ℕ) → Type 0
Cuts len old new = (new ≡ old) ⊎ (new ≡ take len old)

-- each new outcome of a crash is an old one after a step
abbrev pub Follows : (step : List ℕ → List ℕ → Type 0) → (old new : List ℕ → Type 0) → Type 0
Follows step old new = (left : List ℕ) → new left → (before : List ℕ) × old before × step before left

-- no crash leaves anything new
abbrev pub NoMore : (old new : Ending → List ℕ → Type 0) → Type 0
NoMore old new = (ending : Ending) (left : List ℕ) → new ending left → old ending left

-- a crash leaves this and nothing else
abbrev pub Only : List ℕ → (Ending → List ℕ → Type 0) → Type 0
Only octets may_leave = (ending : Ending) (left : List ℕ) → may_leave ending left → left ≡ octets

-- old, and something after it
pub record Extends (old new : List ℕ) : Type 0 where
  pub tail : List ℕ
  pub added : new ≡ old ++ tail
