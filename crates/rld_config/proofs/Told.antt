-- What is told of clients and accounts, as a loop over their numbers finds it.
use Rattle.std.proofs.Common.{◌≡◌, ℕ, ◌+◌, ◌<◌, List, [], ◌∷◌, ◌++◌, take, length, get_or, Some, sym, ap, append_assoc, arith, ◌∙◌}
use Rattle.std.proofs.lemmas.List.{take_more, append-nil, flat_map_more}
use Rattle.std.proofs.lemmas.Option.{slice_get_within, get_or_from_slice_get}
use Rattle.std.specs.List.{flat_map, slice_get}
use Rattle.rsl_accounts.specs.declared.entry.Entry.{Entry}
use Rattle.rld_config.specs.Warning.{book_octets, books_octets}

-- the elements up to one that is found by its number, and that one
taken : {X : Type 0} (xs : List X) (i : ℕ) (x : X) → slice_get xs i ≡ Some x → take (i + 1) xs ≡ take i xs ++ x ∷ []
taken xs i x there =
    take_more xs i x (slice_get_within xs i x there) ∙ ap (λ y. take i xs ++ y ∷ []) (get_or_from_slice_get xs i x x there)

flat_push : {X Y : Type 0} (f : X → List Y) (xs : List X) (x : X) → flat_map f (xs ++ x ∷ []) ≡ flat_map f xs ++ f x
flat_push f [] x = append-nil (f x)
flat_push f (first ∷ xs) x = ap (λ rest. f first ++ rest) (flat_push f xs x) ∙ sym (append_assoc (f first) (flat_map f xs) (f x))

books_push : (entries : List Entry) (entry : Entry) → books_octets (entries ++ entry ∷ []) ≡ books_octets entries + book_octets entry.rules
books_push [] entry = omega arith
books_push (first ∷ entries) entry = omega (arith, books_push entries entry)

-- what is told of one more client
pub told_more : {X Y : Type 0} (f : X → List Y) (xs : List X) (i : ℕ) (x : X) → slice_get xs i ≡ Some x → flat_map f (take (i + 1) xs) ≡ flat_map f (take i xs) ++ f x
told_more f xs i x there = ap (flat_map f) (taken xs i x there) ∙ flat_push f (take i xs) x

-- what one more book takes
pub books_more : (entries : List Entry) (i : ℕ) (entry : Entry) → slice_get entries i ≡ Some entry → books_octets (take (i + 1) entries) ≡ books_octets (take i entries) + book_octets entry.rules
books_more entries i entry there = ap books_octets (taken entries i entry there) ∙ books_push (take i entries) entry

-- a loop over a list finds what is of one more element
pub found_more : {X Y : Type 0} (f : X → List Y) (before : List Y) (xs : List X) (i : ℕ) (d : X) (old new : List Y) → i < length xs → old ≡ before ++ flat_map f (take i xs) → new ≡ old ++ f (get_or xs i d) → new ≡ before ++ flat_map f (take (i + 1) xs)
found_more f before xs i d old new within was is =
    is
    ∙ ap (λ found. found ++ f (get_or xs i d)) was
    ∙ flat_map_more f before (take i xs) (get_or xs i d)
    ∙ ap (λ all. before ++ flat_map f all) (sym (take_more xs i d within))
