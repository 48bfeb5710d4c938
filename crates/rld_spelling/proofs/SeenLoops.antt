-- Values that a loop reads one behind the other, seen by a view.
use Rattle.std.proofs.Common.{◌≡◌, ℕ, ◌-◌, ◌+◌, ◌<◌, List, ◌∷◌, [], ◌++◌, map, Ok, ap, ◌∙◌}
use Rattle.std.proofs.lemmas.List.{map_push}
use Rattle.rld_spelling.specs.Field.{Reading}
use Rattle.rld_spelling.specs.Lists.{values_at}
use Rattle.rld_spelling.proofs.Callers.{with_front, front_none, front_more, front_all}

pub seen_more : {X A : Type 0} (view : X → A) (read : List ℕ → Reading A) (xs : List X) (count i : ℕ) (octets : List ℕ) (x : X) (left : List ℕ) (total : Reading (List A)) → i < count → read octets ≡ Ok (view x, left)
    → with_front (map view xs) (values_at read (count - i) octets) ≡ total → with_front (map view (xs ++ x ∷ [])) (values_at read (count - (i + 1)) left) ≡ total
seen_more {A = A} view read xs count i octets x left total lt e so_far =
    ap (λ (front : List A). with_front front (values_at read (count - (i + 1)) left)) (map_push view xs x)
    ∙ front_more read (map view xs) count i octets (view x) left total lt e so_far

pub ruleset seen_steps = (front_none, seen_more, front_all)
