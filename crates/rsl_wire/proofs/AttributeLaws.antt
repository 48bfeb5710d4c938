-- The function that reads a list of attributes computes what the grammar says.
use Rattle.std.proofs.Common.{◌≡◌, ℕ, zero, suc, ◌+◌, ◌-◌, ◌<◌, ◌≤◌, ◌⊎◌, Bool, true, false, cond, ltb, ◌||◌, List, [], ◌∷◌, ◌++◌, length, take, drop, Option, Some, None, Result, Ok, Err, refl, sym, ap, subst, ◌∙◌, append_assoc, arith, inl, inr}
use Rattle.std.specs.Prelude.{MatchResult, IfOk, IfErr, IsOkAnd}
use Rattle.std.specs.List.{AllByRecursion}
use Rattle.std.specs.Result.{result_unwrap_or}
use Rattle.std.proofs.lemmas.Bool.{cases_lt, ltb-false, le-ltb, ltb-true, lt-ltb}
use Rattle.std.proofs.lemmas.List.{take_at, drop_at, take-append-drop, length-append, length-take, length-drop, get_or-drop}
use Rattle.std.proofs.lemmas.List.Concat.{flat_map-cons}
use Rattle.rsl_wire.specs.declared.attributes.BadAttribute.{BadAttribute}
use Rattle.rsl_wire.specs.Attributes.{Attribute, attribute_of, attribute_octets, list_octets, IsAttribute, AreAttributes, BeginsBad, IsBadAt, first_attribute, with_first, list_from, attribute_list, attributes_in}
use Rattle.rsl_wire.proofs.PacketLaws.{IsBytes}

-- what the first attribute and the rest are, where there is one
pub record Begins (octets : List ℕ) (first : Attribute) (rest : List ℕ) : Type 0 where
  pub is : IsAttribute first
  pub joined : octets ≡ attribute_octets first ++ rest
  pub rest_fits : IsBytes rest

abbrev found_or : Bool → Attribute → List ℕ → Option (Attribute × List ℕ)
found_or b first rest = cond b None (Some (first, rest))

abbrev split : Attribute → List ℕ → Attribute × List ℕ
split first rest = (first, rest)

begins_at : (b : Bool) (a first : Attribute) (r rest : List ℕ) → found_or b a r ≡ Some (first, rest) → (b ≡ false) × (split a r ≡ split first rest)
begins_at true a first r rest e = absurd cc
begins_at false a first r rest e = (refl, cc)

none_at : (b : Bool) (a : Attribute) (r : List ℕ) → found_or b a r ≡ None → b ≡ true
none_at true a r e = refl
none_at false a r e = absurd cc

or_true : (a b : Bool) → (a || b) ≡ true → (a ≡ true) ⊎ (b ≡ true)
or_true true b e = inl refl
or_true false b e = inr e

or_false : (a b : Bool) → (a || b) ≡ false → (a ≡ false) × (b ≡ false)
or_false true b e = absurd cc
or_false false b e = (refl, e)

IsBytes-drop : (n : ℕ) (bytes : List ℕ) → IsBytes bytes → IsBytes (drop n bytes)
IsBytes-drop n bytes h i = rw get_or-drop (h (n + i))

IsBytes-two : (a b : ℕ) (bytes : List ℕ) → IsBytes (a ∷ b ∷ bytes) → IsBytes bytes
IsBytes-two a b bytes h i = h (suc (suc i))

pub first_attribute-begins : (octets : List ℕ) (first : Attribute) (rest : List ℕ) → IsBytes octets → first_attribute octets ≡ Some (first, rest) → Begins octets first rest
first_attribute-begins [] first rest fits e = absurd cc
first_attribute-begins (kind ∷ []) first rest fits e = absurd cc
first_attribute-begins (kind ∷ len ∷ octets) first rest fits e =
    let a = begins_at (ltb len 2 || ltb (2 + length octets) len) (attribute_of kind (take (len - 2) octets)) first (drop (len - 2) octets) rest e in
    let t = or_false (ltb len 2) (ltb (2 + length octets) len) a.0 in
    let low : 2 ≤ len = ltb-false _ _ t.0 in
    let high : len ≤ 2 + length octets = ltb-false _ _ t.1 in
    let value_len : length (take (len - 2) octets) ≡ len - 2 = omega (arith, length-take (len - 2) octets) in
    let len_is : 2 + length (take (len - 2) octets) ≡ len = omega (arith, value_len) in
    let whole : kind ∷ len ∷ octets ≡ attribute_octets (attribute_of kind (take (len - 2) octets)) ++ drop (len - 2) octets =
    ap (λ (x : List ℕ). kind ∷ len ∷ x) (sym (take-append-drop (len - 2) octets)) ∙ ap (λ (k : ℕ). kind ∷ k ∷ take (len - 2) octets ++ drop (len - 2) octets) (sym len_is) in
    let is : IsAttribute (attribute_of kind (take (len - 2) octets)) = record { kind = fits 0; value = omega (arith, fits 1, value_len) } in
    subst (λ (p : Attribute × List ℕ). Begins (kind ∷ len ∷ octets) p.0 p.1) (a.1) (record { is = is; joined = whole; rest_fits = IsBytes-drop (len - 2) octets (IsBytes-two kind len octets fits) })

-- where there is none
pub first_attribute-bad : (octets : List ℕ) → 0 < length octets → first_attribute octets ≡ None → BeginsBad octets
first_attribute-bad [] some e = absurd (omega arith)
first_attribute-bad (kind ∷ []) some e = tt
first_attribute-bad (kind ∷ len ∷ octets) some e =
    let t = none_at (ltb len 2 || ltb (2 + length octets) len) (attribute_of kind (take (len - 2) octets)) (drop (len - 2) octets) e in
    elim (or_true (ltb len 2) (ltb (2 + length octets) len) t) [
      | inl low ↦ inl (ltb-true _ _ low)
      | inr high ↦ inr (ltb-true _ _ high)
    ]

-- an attribute's octets are read as it
pub first_attribute-octets : (first : Attribute) (rest : List ℕ) → IsAttribute first → first_attribute (attribute_octets first ++ rest) ≡ Some (first, rest)
first_attribute-octets first rest is =
    let low : ltb (2 + length first.value) 2 ≡ false = le-ltb _ _ (omega arith) in
    let high : ltb (2 + length (first.value ++ rest)) (2 + length first.value) ≡ false = le-ltb _ _ (omega (arith, length-append first.value rest)) in
    let n : 2 + length first.value - 2 ≡ length first.value = omega arith in
    rw (low, high, n, take_at first.value rest (length first.value) refl, drop_at first.value rest (length first.value) refl) refl

-- what begins badly has no first attribute
pub bad-first_attribute : (octets : List ℕ) → BeginsBad octets → first_attribute octets ≡ None
bad-first_attribute [] bad = refl
bad-first_attribute (kind ∷ []) bad = refl
bad-first_attribute (kind ∷ len ∷ octets) (inl low) = let t : ltb len 2 ≡ true = lt-ltb _ _ low in rw t refl
bad-first_attribute (kind ∷ len ∷ octets) (inr high) = elim (cases_lt len 2) [
  | inl low ↦ let t : ltb len 2 ≡ true = lt-ltb _ _ low in rw t refl
  | inr fine ↦ let t : ltb len 2 ≡ false = le-ltb _ _ fine in let u : ltb (2 + length octets) len ≡ true = lt-ltb _ _ high in rw (t, u) refl
]

-- ---- the list

-- one attribute more
one_more : (most : ℕ) (octets : List ℕ) (first : Attribute) (rest : List ℕ) → first_attribute octets ≡ Some (first, rest) → list_from (suc most) octets ≡ with_first first (list_from most rest)
unfolding list_from
one_more most [] first rest e = absurd cc
one_more most (kind ∷ octets) first rest e = rw e refl

-- no more
no_more : (most : ℕ) (octets : List ℕ) → 0 < length octets → first_attribute octets ≡ None → list_from most octets ≡ Err 0
unfolding list_from
no_more most [] some e = absurd (omega arith)
no_more zero (kind ∷ octets) some e = refl
no_more (suc most) (kind ∷ octets) some e = rw e refl

list_from-nil : (most : ℕ) → list_from most [] ≡ Ok []
unfolding list_from
list_from-nil zero = refl
list_from-nil (suc most) = refl

-- what is after the first attribute is shorter
pub shorter : (octets : List ℕ) (first : Attribute) (rest : List ℕ) → first_attribute octets ≡ Some (first, rest) → 2 + length rest ≤ length octets
shorter [] first rest e = absurd cc
shorter (kind ∷ []) first rest e = absurd cc
shorter (kind ∷ len ∷ octets) first rest e =
    let a = begins_at (ltb len 2 || ltb (2 + length octets) len) (attribute_of kind (take (len - 2) octets)) first (drop (len - 2) octets) rest e in
    let r : drop (len - 2) octets ≡ rest = ap (λ (p : Attribute × List ℕ). p.1) a.1 in
    omega (arith, ap length r, length-drop (len - 2) octets)

-- the first attribute of the octets, or none: as two cases
First : List ℕ → Type 0
First octets = (first_attribute octets ≡ None) ⊎ ((first : Attribute) × (rest : List ℕ) × (first_attribute octets ≡ Some (first, rest)))

first_cases : (octets : List ℕ) → First octets
unfolding First
first_cases octets = by (first_attribute octets) refl
  where
    by : (o : Option (Attribute × List ℕ)) → first_attribute octets ≡ o → First octets
    by None e = inl e
    by (Some p) e = inr (p.0, p.1, e)

-- how many may be read does not matter, from as many as there are octets on
enough : (most more : ℕ) (octets : List ℕ) → length octets ≤ most → length octets ≤ more → list_from most octets ≡ list_from more octets
unfolding First
enough most more [] le le' = list_from-nil most ∙ sym (list_from-nil more)
enough zero more (kind ∷ octets) le le' = absurd (omega arith)
enough (suc most) zero (kind ∷ octets) le le' = absurd (omega arith)
enough (suc most) (suc more) (kind ∷ octets) le le' = elim (first_cases (kind ∷ octets)) [
  | inl none ↦ no_more (suc most) (kind ∷ octets) (omega arith) none ∙ sym (no_more (suc more) (kind ∷ octets) (omega arith) none)
  | inr f ↦
      let less = shorter (kind ∷ octets) f.0 f.1 f.2 in
      one_more most (kind ∷ octets) f.0 f.1 f.2 ∙ ap (with_first f.0) (enough most more f.1 (omega (arith, less)) (omega (arith, less))) ∙ sym (one_more more (kind ∷ octets) f.0 f.1 f.2)
]

-- an attribute that begins the octets is the first of their list
pub attribute_list-first : (octets : List ℕ) (first : Attribute) (rest : List ℕ) → first_attribute octets ≡ Some (first, rest) → attribute_list octets ≡ with_first first (attribute_list rest)
attribute_list-first [] first rest e = absurd cc
attribute_list-first (kind ∷ octets) first rest e =
    let less = shorter (kind ∷ octets) first rest e in
    one_more (length octets) (kind ∷ octets) first rest e ∙ ap (with_first first) (enough (length octets) (length rest) rest (omega (arith, less)) (omega arith))

pub attribute_list-bad : (octets : List ℕ) → 0 < length octets → first_attribute octets ≡ None → attribute_list octets ≡ Err 0
attribute_list-bad octets some e = no_more (length octets) octets some e

pub attribute_list-nil : attribute_list [] ≡ Ok []
attribute_list-nil = list_from-nil 0

-- ---- the grammar

-- joined attributes are read as their list
joined_reads : (attributes : List Attribute) → AllByRecursion IsAttribute attributes → attribute_list (list_octets attributes) ≡ Ok attributes
joined_reads [] each = attribute_list-nil
joined_reads (first ∷ attributes) each =
    let e : list_octets (first ∷ attributes) ≡ attribute_octets first ++ list_octets attributes = flat_map-cons attribute_octets first attributes in
    ap attribute_list e
    ∙ attribute_list-first (attribute_octets first ++ list_octets attributes) first (list_octets attributes) (first_attribute-octets first (list_octets attributes) each.0)
    ∙ ap (with_first first) (joined_reads attributes each.1)

pub attribute_list-only : (octets : List ℕ) (attributes : List Attribute) → AreAttributes octets attributes → attribute_list octets ≡ Ok attributes
attribute_list-only octets attributes are = ap attribute_list are.joined ∙ joined_reads attributes are.each

-- what stands before the first bad attribute is read, and it is not
bad_reads : (front : List Attribute) (rest : List ℕ) → AllByRecursion IsAttribute front → BeginsBad rest → attribute_list (list_octets front ++ rest) ≡ Err (length (list_octets front))
bad_reads [] [] each bad = absurd bad
bad_reads [] (kind ∷ rest) each bad = attribute_list-bad (kind ∷ rest) (omega arith) (bad-first_attribute (kind ∷ rest) bad)
bad_reads (first ∷ front) rest each bad =
    let e : list_octets (first ∷ front) ≡ attribute_octets first ++ list_octets front = flat_map-cons attribute_octets first front in
    let whole : list_octets (first ∷ front) ++ rest ≡ attribute_octets first ++ (list_octets front ++ rest) = ap (λ (x : List ℕ). x ++ rest) e ∙ append_assoc (attribute_octets first) (list_octets front) rest in
    let len : length (attribute_octets first) + length (list_octets front) ≡ length (list_octets (first ∷ front)) = sym (length-append (attribute_octets first) (list_octets front)) ∙ ap (λ (x : List ℕ). length x) (sym e) in
    ap attribute_list whole
    ∙ attribute_list-first (attribute_octets first ++ (list_octets front ++ rest)) first (list_octets front ++ rest) (first_attribute-octets first (list_octets front ++ rest) each.0)
    ∙ ap (with_first first) (bad_reads front rest each.1 bad)
    ∙ ap (λ (k : ℕ). Err k) len

pub attribute_list-bad_at : (octets : List ℕ) (at : ℕ) → IsBadAt octets at → attribute_list octets ≡ Err at
attribute_list-bad_at octets at is = ap attribute_list is.joined ∙ bad_reads is.front is.rest is.each is.bad ∙ ap (λ (k : ℕ). Err k) (sym is.offset)

-- what is read of octets: attributes that are they, or where the first bad one is
abbrev pub Read : List ℕ → Result (List Attribute) ℕ → Type 0
Read octets (Ok attributes) = AreAttributes octets attributes
Read octets (Err at) = IsBadAt octets at

read_more : (octets : List ℕ) (first : Attribute) (rest : List ℕ) (r : Result (List Attribute) ℕ) → Begins octets first rest → Read rest r → Read octets (with_first first r)
read_more octets first rest (Ok attributes) begins are = record {
  each = (begins.is, are.each);
  joined = begins.joined ∙ ap (λ (x : List ℕ). attribute_octets first ++ x) are.joined ∙ sym (flat_map-cons attribute_octets first attributes);
}
read_more octets first rest (Err at) begins bad = record {
  front = first ∷ bad.front;
  rest = bad.rest;
  each = (begins.is, bad.each);
  joined = begins.joined ∙ ap (λ (x : List ℕ). attribute_octets first ++ x) bad.joined ∙ sym (append_assoc (attribute_octets first) (list_octets bad.front) bad.rest) ∙ ap (λ (x : List ℕ). x ++ bad.rest) (sym (flat_map-cons attribute_octets first bad.front));
  offset = ap (λ k. length (attribute_octets first) + k) bad.offset ∙ sym (length-append (attribute_octets first) (list_octets bad.front)) ∙ ap (λ (x : List ℕ). length x) (sym (flat_map-cons attribute_octets first bad.front));
  bad = bad.bad;
}

reads_within : (most : ℕ) (octets : List ℕ) → length octets ≤ most → IsBytes octets → Read octets (attribute_list octets)
unfolding First
reads_within most [] le fits = subst (Read []) (sym attribute_list-nil) (record { each = tt; joined = refl })
reads_within zero (kind ∷ octets) le fits = absurd (omega arith)
reads_within (suc most) (kind ∷ octets) le fits = elim (first_cases (kind ∷ octets)) [
  | inl none ↦ subst (Read (kind ∷ octets)) (sym (attribute_list-bad (kind ∷ octets) (omega arith) none)) (record {
    front = [];
    rest = kind ∷ octets;
    each = tt;
    joined = refl;
    offset = refl;
    bad = first_attribute-bad (kind ∷ octets) (omega arith) none;
  })
  | inr f ↦
      let begins = first_attribute-begins (kind ∷ octets) f.0 f.1 fits f.2 in
      let less = shorter (kind ∷ octets) f.0 f.1 f.2 in
      subst (Read (kind ∷ octets)) (sym (attribute_list-first (kind ∷ octets) f.0 f.1 f.2)) (read_more (kind ∷ octets) f.0 f.1 (attribute_list f.1) begins (reads_within most f.1 (omega (arith, less)) begins.rest_fits))
]

pub attribute_list-reads : (octets : List ℕ) → IsBytes octets → Read octets (attribute_list octets)
attribute_list-reads octets fits = reads_within (length octets) octets (omega arith) fits

-- ---- the reader's loop

-- what was read before octets at an offset, and what is still read
abbrev pub Follows : Result (List Attribute) ℕ → ℕ → Result (List Attribute) ℕ → Type 0
Follows (Ok rest) at whole = (all : List Attribute) × (whole ≡ Ok all)
Follows (Err bad) at whole = whole ≡ Err (at + bad)

pub follows_start : (r : Result (List Attribute) ℕ) → Follows r 0 r
follows_start (Ok rest) = (rest, refl)
follows_start (Err bad) = ap (λ k. Err k) (omega arith)

follows_more : (first : Attribute) (r : Result (List Attribute) ℕ) (at : ℕ) (whole : Result (List Attribute) ℕ) → Follows (with_first first r) at whole → Follows r (at + length (attribute_octets first)) whole
follows_more first (Ok rest) at whole f = f
follows_more first (Err bad) at whole f = f ∙ ap (λ k. Err k) (omega arith)

first_len : (octets : List ℕ) (first : Attribute) (rest : List ℕ) → first_attribute octets ≡ Some (first, rest) → length octets - length rest ≡ length (attribute_octets first)
first_len [] first rest e = absurd cc
first_len (kind ∷ []) first rest e = absurd cc
first_len (kind ∷ len ∷ octets) first rest e =
    let a = begins_at (ltb len 2 || ltb (2 + length octets) len) (attribute_of kind (take (len - 2) octets)) first (drop (len - 2) octets) rest e in
    let r : drop (len - 2) octets ≡ rest = ap (λ (p : Attribute × List ℕ). p.1) a.1 in
    let v : take (len - 2) octets ≡ first.value = ap (λ (p : Attribute × List ℕ). p.0.value) a.1 in
    let t = or_false (ltb len 2) (ltb (2 + length octets) len) a.0 in
    let low : 2 ≤ len = ltb-false _ _ t.0 in
    let high : len ≤ 2 + length octets = ltb-false _ _ t.1 in
    omega (arith, ap length r, ap length v, length-drop (len - 2) octets, length-take (len - 2) octets)

pub follows_next : (total : ℕ) (octets : List ℕ) (first : Attribute) (rest : List ℕ) (whole : Result (List Attribute) ℕ) → length octets ≤ total → first_attribute octets ≡ Some (first, rest) → Follows (attribute_list octets) (total - length octets) whole → Follows (attribute_list rest) (total - length rest) whole
follows_next total octets first rest whole le e f =
    let less = shorter octets first rest e in
    let len : total - length octets + length (attribute_octets first) ≡ total - length rest = omega (arith, first_len octets first rest e, less) in
    subst (λ k. Follows (attribute_list rest) k whole) len (follows_more first (attribute_list rest) (total - length octets) whole (subst (λ r. Follows r (total - length octets) whole) (attribute_list-first octets first rest e) f))

pub follows_bad : (octets : List ℕ) (at : ℕ) (whole : Result (List Attribute) ℕ) → 0 < length octets → first_attribute octets ≡ None → Follows (attribute_list octets) at whole → whole ≡ Err at
follows_bad octets at whole some e f = subst (λ r. Follows r at whole) (attribute_list-bad octets some e) f ∙ ap (λ k. Err k) (omega arith)

pub follows_end : (octets : List ℕ) (at : ℕ) (r : Result (List Attribute) ℕ) → length octets ≡ 0 → Follows (attribute_list octets) at r → r ≡ Ok (result_unwrap_or r [])
follows_end [] at r e f = let g = subst (λ s. Follows s at r) attribute_list-nil f in g.1 ∙ ap (λ (s : Result (List Attribute) ℕ). Ok (result_unwrap_or s [])) (sym g.1)
follows_end (kind ∷ octets) at r e f = absurd (omega arith)

-- ---- the attributes of well-formed octets

pub attributes_in-first : (octets : List ℕ) (first : Attribute) (rest : List ℕ) → first_attribute octets ≡ Some (first, rest) → attribute_list octets ≡ Ok (attributes_in octets) → (attribute_list rest ≡ Ok (attributes_in rest)) × (attributes_in octets ≡ first ∷ attributes_in rest)
attributes_in-first octets first rest e is = by (attribute_list rest) refl
  where
    by : (r : Result (List Attribute) ℕ) → attribute_list rest ≡ r → (attribute_list rest ≡ Ok (attributes_in rest)) × (attributes_in octets ≡ first ∷ attributes_in rest)
    by (Ok l) s =
        let in_rest : attributes_in rest ≡ l = ap (λ (x : Result (List Attribute) ℕ). result_unwrap_or x []) s in
        let whole : attribute_list octets ≡ Ok (first ∷ l) = attribute_list-first octets first rest e ∙ ap (with_first first) s in
        (s ∙ ap (λ (x : List Attribute). Ok x) (sym in_rest), ap (λ (x : Result (List Attribute) ℕ). result_unwrap_or x []) whole ∙ ap (λ (x : List Attribute). first ∷ x) (sym in_rest))
    by (Err bad) s = absurd (let whole = attribute_list-first octets first rest e ∙ ap (with_first first) s in cc)

pub attributes_in-none : (octets : List ℕ) → first_attribute octets ≡ None → attribute_list octets ≡ Ok (attributes_in octets) → attributes_in octets ≡ []
attributes_in-none [] e is = ap (λ (x : Result (List Attribute) ℕ). result_unwrap_or x []) attribute_list-nil
attributes_in-none (kind ∷ octets) e is = absurd (let bad = attribute_list-bad (kind ∷ octets) (omega arith) e in cc)

-- there are no more attributes than octets
abbrev AtMost : Result (List Attribute) ℕ → ℕ → Type 0
AtMost (Ok attributes) most = length attributes ≤ most
AtMost (Err at) most = Unit {0}

at_most-first : (first : Attribute) (r : Result (List Attribute) ℕ) (n m : ℕ) → AtMost r n → n + 1 ≤ m → AtMost (with_first first r) m
at_most-first first (Ok attributes) n m h le = omega arith
at_most-first first (Err at) n m h le = tt

at_most : (most : ℕ) (octets : List ℕ) → length octets ≤ most → AtMost (attribute_list octets) (length octets)
unfolding First
at_most most [] le = subst (λ r. AtMost r 0) (sym attribute_list-nil) (omega arith)
at_most zero (kind ∷ octets) le = absurd (omega arith)
at_most (suc most) (kind ∷ octets) le = elim (first_cases (kind ∷ octets)) [
  | inl none ↦ subst (λ r. AtMost r (length (kind ∷ octets))) (sym (attribute_list-bad (kind ∷ octets) (omega arith) none)) tt
  | inr f ↦
      let less = shorter (kind ∷ octets) f.0 f.1 f.2 in
      subst (λ r. AtMost r (length (kind ∷ octets))) (sym (attribute_list-first (kind ∷ octets) f.0 f.1 f.2)) (at_most-first f.0 (attribute_list f.1) (length f.1) (length (kind ∷ octets)) (at_most most f.1 (omega (arith, less))) (omega (arith, less)))
]

pub length-attributes_in : (octets : List ℕ) → attribute_list octets ≡ Ok (attributes_in octets) → length (attributes_in octets) ≤ length octets
length-attributes_in octets is = subst (λ r. AtMost r (length octets)) is (at_most (length octets) octets (omega arith))

-- ---- from what was read to what the grammar says

abbrev pub Gives : List ℕ → Result (List Attribute) BadAttribute → Type 0
Gives octets r = MatchResult r (λ attrs. attribute_list octets ≡ Ok attrs) (λ fault. attribute_list octets ≡ Err fault.at)

pub found_by : (octets : List ℕ) (r : Result (List Attribute) BadAttribute) → IsBytes octets → Gives octets r → IfOk r (λ attrs. AreAttributes octets attrs)
found_by octets (Ok attrs) fits e = subst (Read octets) e (attribute_list-reads octets fits)
found_by octets (Err fault) fits e = tt

pub only_by : (octets : List ℕ) (r : Result (List Attribute) BadAttribute) → Gives octets r → (attributes : List Attribute) → AreAttributes octets attributes → IsOkAnd r (λ attrs. attrs ≡ attributes)
only_by octets (Ok attrs) e attributes are = let h = attribute_list-only octets attributes are in cc
only_by octets (Err fault) e attributes are = absurd (let h = attribute_list-only octets attributes are in cc)

pub bad_by : (octets : List ℕ) (r : Result (List Attribute) BadAttribute) → IsBytes octets → Gives octets r → IfErr r (λ fault. IsBadAt octets fault.at)
bad_by octets (Ok attrs) fits e = tt
bad_by octets (Err fault) fits e = subst (Read octets) e (attribute_list-reads octets fits)

-- no other attributes are the octets
pub one_list : (octets : List ℕ) (attributes others : List Attribute) → AreAttributes octets attributes → AreAttributes octets others → attributes ≡ others
one_list octets attributes others are also =
    let a = attribute_list-only octets attributes are in
    let b = attribute_list-only octets others also in
    cc

-- no other offset is bad, and no list of attributes has one
pub one_offset : (octets : List ℕ) (at other : ℕ) → IsBadAt octets at → IsBadAt octets other → at ≡ other
one_offset octets at other is also =
    let a = attribute_list-bad_at octets at is in
    let b = attribute_list-bad_at octets other also in
    cc

pub no_list : (octets : List ℕ) (attributes : List Attribute) (at : ℕ) → AreAttributes octets attributes → IsBadAt octets at → ⊥
no_list octets attributes at are is =
    let a = attribute_list-only octets attributes are in
    let b = attribute_list-bad_at octets at is in
    cc
