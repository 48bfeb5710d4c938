-- The index of the first element of a list that passes a test; and a change of the element at an
-- index.
use Rattle.std.specs.Prelude.{◌≡◌, ℕ, zero, suc, ◌<◌, List, [], ◌∷◌, Bool, true, false, length, take, get_or}
use Rattle.std.specs.List.{list_any}

pub record IsFirst {A : Type 0} (passes : A → Bool) (xs : List A) (at : ℕ) : Type 0 where
  pub within : at < length xs
  pub passed : (d : A) → passes (get_or xs at d) ≡ true
  pub before : list_any passes (take at xs) ≡ false

unfoldable pub change_at : {A : Type 0} → ℕ → (A → A) → List A → List A
change_at at change [] = []
change_at zero change (x ∷ xs) = change x ∷ xs
change_at (suc at) change (x ∷ xs) = x ∷ change_at at change xs
