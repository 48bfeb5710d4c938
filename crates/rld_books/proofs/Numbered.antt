-- A list that is made of another one, element by element.
use Rattle.std.proofs.Common.{◌≡◌, ℕ, ◌+◌, List, [], ◌∷◌, ◌++◌, Some, map, take, sym, ap, ◌∙◌}
use Rattle.std.specs.Prelude.{slice_get}
use Rattle.std.proofs.lemmas.List.{map_push, take_more}
use Rattle.std.proofs.lemmas.Option.{get_or_from_slice_get, slice_get_within}

pub one_more : {X Y : Type 0} (f : X → Y) (xs : List X) (i : ℕ) (x : X) (made : List Y) (y : Y)
    → slice_get xs i ≡ Some x → made ≡ map f (take i xs) → y ≡ f x
    → made ++ y ∷ [] ≡ map f (take (i + 1) xs)
one_more f xs i x made y there so_far is =
    ap (λ l. l ++ y ∷ []) so_far
    ∙ ap (λ z. map f (take i xs) ++ z ∷ []) is
    ∙ sym (map_push f (take i xs) x)
    ∙ ap (λ z. map f (take i xs ++ z ∷ [])) (sym (get_or_from_slice_get xs i x x there))
    ∙ ap (map f) (sym (take_more xs i x (slice_get_within xs i x there)))
