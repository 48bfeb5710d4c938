-- What the fields before say of those that are left.
use Rattle.std.proofs.Common.{◌≡◌, refl}
use Rattle.std.specs.Prelude.{ℕ, Bool, false, List, [], ◌∷◌, Option, Some, None, filter, bytes_eq}
use Rattle.rld_ask.specs.Heads.{is_authorization, is_only, shows_token}

abbrev pub alone : Bool → List (List ℕ × List ℕ) → Bool
alone shown [] = shown
alone shown (other ∷ others) = false

-- whether the token is shown, where these fields are left
abbrev pub shown_with : (credentials : List ℕ) → Option Bool → (fields : List (List ℕ × List ℕ)) → Bool
shown_with credentials None fields = shows_token credentials fields
shown_with credentials (Some shown) fields =
    alone shown (filter (λ (field : List ℕ × List ℕ). is_authorization field.0) fields)

-- with the first Authorization all hangs on whether it is the only one
pub first : (credentials : List ℕ) (field : List ℕ × List ℕ) (fields : List (List ℕ × List ℕ)) →
    is_only credentials (field ∷ fields) ≡ alone (bytes_eq field.1 credentials) fields
first credentials field [] = refl
first credentials field (other ∷ others) = refl
