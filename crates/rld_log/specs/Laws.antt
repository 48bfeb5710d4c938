-- Laws of frames.
use Rattle.std.specs.Prelude.{◌≡◌, ℕ, List}
use Rattle.rld_log.specs.Frames.{HasPayloads, IsDamagedAt}
use Rattle.rld_log.specs.Log.{Detects, Shortens}

-- a file has one list of payloads
abbrev pub HaveOneReading : Type 0
HaveOneReading = (file : List ℕ) (some other : List (List ℕ)) → HasPayloads file some → HasPayloads file other → some ≡ other

-- a damaged file has no list of payloads
abbrev pub HaveNoReading : Type 0
HaveNoReading = (file : List ℕ) (at : ℕ) (payloads : List (List ℕ)) → IsDamagedAt file at → HasPayloads file payloads → ⊥

-- a damaged file is damaged at one offset
abbrev pub HaveOneOffset : Type 0
HaveOneOffset = (file : List ℕ) (some other : ℕ) → IsDamagedAt file some → IsDamagedAt file other → some ≡ other

-- a kill tears no frame so that it passes for one
abbrev pub KillsAreDetected : Type 0
KillsAreDetected = Detects Shortens
