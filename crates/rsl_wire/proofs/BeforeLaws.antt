-- How many octets stand before the first attribute of a Type.
use Rattle.std.proofs.Common.{◌≡◌, ◌≢◌, ℕ, ◌+◌, ◌≤◌, ◌==◌, Bool, true, false, not, List, [], ◌∷◌, length, Option, Some, None, cond, ap, ◌∙◌, sym, subst, arith, length-append}
use Rattle.std.specs.Prelude.{IfSome}
use Rattle.std.proofs.lemmas.Bool.{eq-eqb, ne_eqb}
use Rattle.std.proofs.lemmas.List.Sums.{take_while-cons}
use Rattle.std.specs.List.{before_first}
use Rattle.rsl_wire.specs.Attributes.{Attribute, attribute_of, attribute_octets, first_of, is_kind, list_octets, octets_before}

module _ (kind : ℕ) where
  -- the first attribute is of the Type, or one before it
  octets_before-cons : (attribute : Attribute) (attributes : List Attribute)
      → octets_before kind (attribute ∷ attributes) ≡ cond (attribute.kind == kind) 0 (length (attribute_octets attribute) + octets_before kind attributes)
  unfolding octets_before
  octets_before-cons attribute attributes =
      ap (λ (x : List Attribute). length (list_octets x)) (take_while-cons (λ (x : Attribute). not (is_kind kind x)) attribute attributes)
      ∙ by (attribute.kind == kind)
    where
      by : (b : Bool) → length (list_octets (cond (not b) (attribute ∷ before_first (is_kind kind) attributes) [])) ≡ cond b 0 (length (attribute_octets attribute) + octets_before kind attributes)
      by true = omega arith
      by false = length-append (attribute_octets attribute) (list_octets (before_first (is_kind kind) attributes))

  -- an attribute has two octets more than its value
  two_more : (found : ℕ) (value : List ℕ) → length (attribute_octets (attribute_of found value)) ≡ 2 + length value
  two_more found value = omega arith

  octets_before_step : (found : ℕ) (value : List ℕ) (attributes : List Attribute)
      → octets_before kind (attribute_of found value ∷ attributes) ≡ cond (found == kind) 0 (2 + length value + octets_before kind attributes)
  octets_before_step found value attributes =
      octets_before-cons (attribute_of found value) attributes
      ∙ ap (λ (n : ℕ). cond (found == kind) 0 (n + octets_before kind attributes)) (two_more found value)

  -- the octets counted so far, and those of one more attribute before it
  pub counted_on : (found len : ℕ) (value : List ℕ) (all left rest : List Attribute) → found ≢ kind → left ≡ attribute_of found value ∷ rest
      → len + octets_before kind left ≡ octets_before kind all → len + (2 + length value) + octets_before kind rest ≡ octets_before kind all
  counted_on found len value all left rest other e counted =
      let step : octets_before kind left ≡ 2 + length value + octets_before kind rest =
      ap (octets_before kind) e
      ∙ octets_before_step found value rest
      ∙ ap (λ (b : Bool). cond b 0 (2 + length value + octets_before kind rest)) (ne_eqb found kind other)
      in
      omega (arith, step, counted)

  pub stays_short : (found len most : ℕ) (value : List ℕ) (left rest : List Attribute) → left ≡ attribute_of found value ∷ rest
      → len + length (list_octets left) ≤ most → len + (2 + length value) + length (list_octets rest) ≤ most
  stays_short found len most value left rest e short =
      let step : length (list_octets left) ≡ length (attribute_octets (attribute_of found value)) + length (list_octets rest) =
      ap (λ (x : List Attribute). length (list_octets x)) e ∙ length-append (attribute_octets (attribute_of found value)) (list_octets rest)
      in
      omega (arith, step, short)

  -- none before an attribute of the Type is left
  pub counted_here : (found len : ℕ) (value : List ℕ) (all left rest : List Attribute) → found ≡ kind → left ≡ attribute_of found value ∷ rest
      → len + octets_before kind left ≡ octets_before kind all → len ≡ octets_before kind all
  counted_here found len value all left rest same e counted =
      let none : octets_before kind left ≡ 0 =
      ap (octets_before kind) e
      ∙ octets_before_step found value rest
      ∙ ap (λ (b : Bool). cond b 0 (2 + length value + octets_before kind rest)) (eq-eqb found kind same)
      in
      omega (arith, none, counted)

  -- all were counted
  pub counted_all : (len : ℕ) (all left : List Attribute) → left ≡ [] → len + octets_before kind left ≡ octets_before kind all → len ≡ octets_before kind all
  unfolding octets_before
  counted_all len all left e counted =
      let none : octets_before kind left ≡ 0 = ap (octets_before kind) e in
      omega (arith, none, counted)

  -- the first attribute of the Type ends within them
  pub first_within : (attributes : List Attribute) → IfSome (first_of kind attributes) (λ value. octets_before kind attributes + 2 + length value ≤ length (list_octets attributes))
  first_within [] = tt
  first_within (attribute ∷ attributes) =
      subst (λ (n : ℕ). IfSome (first_of kind (attribute ∷ attributes)) (λ value. n + 2 + length value ≤ length (list_octets (attribute ∷ attributes)))) (sym (octets_before-cons attribute attributes))
      (by (attribute.kind == kind) (first_of kind attributes) (first_within attributes))
    where
      by : (b : Bool) (first : Option (List ℕ)) → IfSome first (λ value. octets_before kind attributes + 2 + length value ≤ length (list_octets attributes))
          → IfSome (cond b (Some attribute.value) first) (λ value. cond b 0 (length (attribute_octets attribute) + octets_before kind attributes) + 2 + length value ≤ length (list_octets (attribute ∷ attributes)))
      by true first later = omega (arith, length-append (attribute_octets attribute) (list_octets attributes))
      by false None later = tt
      by false (Some value) later = omega (arith, length-append (attribute_octets attribute) (list_octets attributes), later)

  pub within_by_count : (len : ℕ) (attributes : List Attribute) → len ≡ octets_before kind attributes
      → IfSome (first_of kind attributes) (λ value. len + 2 + length value ≤ length (list_octets attributes))
  within_by_count len attributes is = rw is (first_within attributes)
