-- The length of a list of which a loop has passed some elements.
use Rattle.std.proofs.Common.{◌≡◌, ◌<◌, ℕ, List, ◌++◌, length, map, take, drop, arith, ◌∙◌}
use Rattle.std.proofs.lemmas.List.{length-append, length-map, length-take-le, length-drop}

pub within_passed : (f : ℕ → ℕ) (xs ys : List ℕ) (i : ℕ) → i < length xs → ys ≡ map f (take i xs) ++ drop i xs → i < length ys
within_passed f xs ys i within is =
    let front : length (map f (take i xs)) ≡ i = length-map (take i xs) f ∙ length-take-le i xs (omega arith) in
    rw (is, length-append (map f (take i xs)) (drop i xs)) (omega (arith, front, length-drop i xs))
