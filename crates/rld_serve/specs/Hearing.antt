-- What operators hear.
use Rattle.std.specs.Prelude.{◌≡◌, ⊤, ℕ, List, [], ◌∷◌, ◌++◌, Option, Some, None}

-- an operator has heard this answer too, if he reports what he hears
abbrev pub HasHeard : (octets : List ℕ) → (old new : Option (List (List ℕ))) → Type 0
HasHeard octets old None = ⊤
HasHeard octets None (Some after) = ⊥
HasHeard octets (Some before) (Some after) = after ≡ before ++ octets ∷ []

-- he has heard one answer, of which this holds
pub record HasHeardOne (Is : List ℕ → Type 0) (old new : Option (List (List ℕ))) : Type 0 where
  pub octets : List ℕ
  pub is : Is octets
  pub heard : HasHeard octets old new
