-- Two lists whose elements have the same rows, one by one.
use Rattle.std.proofs.Common.{◌≡◌, ℕ, ◌+◌, ◌≤◌, List, Some, map, take, length, sym, ap, refl, ◌∙◌}
use Rattle.std.specs.Prelude.{slice_get}
use Rattle.std.specs.Option.{option_map}
use Rattle.std.proofs.lemmas.List.{take_all}
use Rattle.std.proofs.lemmas.Option.{same_Some, slice_get-map}
use Rattle.rld_books.proofs.Numbered.{one_more}

module _ {X Y : Type 0} (f : X → Y) (xs ys : List X) where
  -- where the rows so far are the same, and the next ones
  pub row_more : (i : ℕ) (x y : X) → slice_get xs i ≡ Some x → slice_get ys i ≡ Some y
      → map f (take i xs) ≡ map f (take i ys) → f x ≡ f y → map f (take (i + 1) xs) ≡ map f (take (i + 1) ys)
  row_more i x y here there front same =
      sym (one_more f xs i x (map f (take i xs)) (f x) here refl refl) ∙ one_more f ys i y (map f (take i xs)) (f x) there front same

  -- where all of them are
  pub all_rows : (n : ℕ) → length xs ≤ n → length ys ≤ n → map f (take n xs) ≡ map f (take n ys) → map f xs ≡ map f ys
  all_rows n short too front = ap (map f) (sym (take_all n xs short)) ∙ front ∙ ap (map f) (take_all n ys too)

  -- one of the same rows
  pub row_of : (i : ℕ) (x y : X) → slice_get xs i ≡ Some x → slice_get ys i ≡ Some y → map f xs ≡ map f ys → f x ≡ f y
  row_of i x y here there same =
      same_Some (f x) (f y) (sym (ap (option_map f) here) ∙ sym (slice_get-map f xs i) ∙ ap (λ (zs : List Y). slice_get zs i) same ∙ slice_get-map f ys i ∙ ap (option_map f) there)

pub ruleset row_steps = (row_more, all_rows, row_of)
