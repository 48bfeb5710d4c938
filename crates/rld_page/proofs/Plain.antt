-- Escaped text has no markup.
use Rattle.std.proofs.Common.{◌≡◌, ℕ, ◌==◌, Bool, true, false, List, [], ◌∷◌, ◌++◌, ◌&&◌, refl, ap, ◌∙◌}
use Rattle.std.specs.List.{flat_map, list_all}
use Rattle.std.proofs.lemmas.List.Folds.{list_all-append}
use Rattle.rld_page.specs.Html.{html_octet, is_no_markup}

-- none of the four stands there
unmarked : (octet : ℕ) → (octet == 60) ≡ false → (octet == 62) ≡ false → (octet == 34) ≡ false → (octet == 39) ≡ false
    → is_no_markup octet ≡ true
unmarked octet l g q t = rw (l, g, q, t) refl

by_cases : (octet : ℕ) (less greater and quote tick : Bool) → (octet == 60) ≡ less → (octet == 62) ≡ greater
    → (octet == 38) ≡ and → (octet == 34) ≡ quote → (octet == 39) ≡ tick
    → list_all is_no_markup (html_octet octet) ≡ true
by_cases octet true greater and quote tick l g a q t = rw l refl
by_cases octet false true and quote tick l g a q t = rw (l, g) refl
by_cases octet false false true quote tick l g a q t = rw (l, g, a) refl
by_cases octet false false false true tick l g a q t = rw (l, g, a, q) refl
by_cases octet false false false false true l g a q t = rw (l, g, a, q, t) refl
by_cases octet false false false false false l g a q t =
    rw (l, g, a, q, t) (ap (λ (plain : Bool). plain && true) (unmarked octet l g q t))

octet_is_plain : (octet : ℕ) → list_all is_no_markup (html_octet octet) ≡ true
octet_is_plain octet =
    by_cases octet (octet == 60) (octet == 62) (octet == 38) (octet == 34) (octet == 39) refl refl refl refl refl

pub text_is_plain : (octets : List ℕ) → list_all is_no_markup (flat_map html_octet octets) ≡ true
text_is_plain [] = refl
text_is_plain (octet ∷ octets) =
    list_all-append is_no_markup (html_octet octet) (flat_map html_octet octets)
    ∙ rw (octet_is_plain octet, text_is_plain octets) refl
