-- A walk over attributes that notes those of a Type.
use Rattle.std.proofs.Common.{◌≡◌, ℕ, ◌+◌, ◌≤◌, ◌==◌, Bool, true, false, cond, List, [], ◌∷◌, length, Option, Some, None, refl, sym, ap, ◌∙◌, arith, sum_by}
use Rattle.std.specs.Option.{option_or}
use Rattle.std.proofs.lemmas.Bool.{eq-eqb}
use Rattle.std.proofs.lemmas.List.Sums.{sum_by-cons}
use Rattle.rsl_wire.specs.Attributes.{Attribute, attribute_of, attribute_octets, first_of, is_kind}
use Rattle.rsl_event.specs.Occurrences.{value_of}
use Rattle.rsl_event.specs.Request.{attribute_count, proxy_len, proxy_states}
use Rattle.rsl_event.specs.declared.codes.TheConstants.{PROXY_STATE}
use Rattle.rsl_event.specs.declared.occurrences.Occurrences.{Occurrences}

-- those noted so far, and those among what is left
pub record AreSoFar (kind : ℕ) (all left : List Attribute) (noted : Occurrences) : Type 0 where
  pub count : noted.count + attribute_count kind left ≡ attribute_count kind all
  pub first : option_or (value_of noted.first) (first_of kind left) ≡ first_of kind all
  pub few : noted.count + length left ≤ length all

none_before : (n : ℕ) → 0 + n ≡ n
none_before n = omega arith

pub none_yet : (kind : ℕ) (all left : List Attribute) (noted : Occurrences) → left ≡ all → noted.count ≡ 0 → value_of noted.first ≡ None → AreSoFar kind all left noted
none_yet kind all left noted same none empty = record {
  count = ap (λ (n : ℕ). n + attribute_count kind left) none ∙ none_before (attribute_count kind left) ∙ ap (attribute_count kind) same;
  first = ap (λ (o : Option (List ℕ)). option_or o (first_of kind left)) empty ∙ ap (first_of kind) same;
  few = omega (arith, none, ap (λ (x : List Attribute). length x) same);
}

or_again : (first : Option (List ℕ)) (value : List ℕ) (later : Option (List ℕ)) → option_or (option_or first (Some value)) later ≡ option_or first (Some value)
or_again None value later = refl
or_again (Some other) value later = refl

-- how many there are among one attribute and those after it
counted : (kind other : ℕ) (value : List ℕ) (rest : List Attribute) → attribute_count kind (attribute_of other value ∷ rest) ≡ cond (other == kind) 1 0 + attribute_count kind rest
counted kind other value rest = sum_by-cons (λ (x : Attribute). cond (is_kind kind x) 1 0) (attribute_of other value) rest

-- an attribute of the Type is noted
pub one_more : (kind : ℕ) (value : List ℕ) (all left rest : List Attribute) (noted more : Occurrences) → left ≡ attribute_of kind value ∷ rest
    → more.count ≡ noted.count + 1 → value_of more.first ≡ option_or (value_of noted.first) (Some value) → AreSoFar kind all left noted → AreSoFar kind all rest more
one_more kind value all left rest noted more is counts firsts so_far =
    let same : (kind == kind) ≡ true = eq-eqb kind kind refl in
    let here : attribute_count kind left ≡ 1 + attribute_count kind rest =
    ap (attribute_count kind) is ∙ counted kind kind value rest ∙ ap (λ (b : Bool). cond b 1 0 + attribute_count kind rest) same in
    let first_here : first_of kind left ≡ Some value =
    ap (first_of kind) is ∙ ap (λ (b : Bool). cond b (Some value) (first_of kind rest)) same in
    record {
      count = omega (arith, here, counts, so_far.count);
      first = ap (λ (o : Option (List ℕ)). option_or o (first_of kind rest)) firsts
          ∙ or_again (value_of noted.first) value (first_of kind rest)
          ∙ ap (λ (o : Option (List ℕ)). option_or (value_of noted.first) o) (sym first_here)
          ∙ so_far.first;
      few = omega (arith, counts, so_far.few, ap (λ (x : List Attribute). length x) is);
    }

-- an attribute of another Type is passed
pub passed_over : (kind other : ℕ) (value : List ℕ) (all left rest : List Attribute) (noted : Occurrences) → (other == kind) ≡ false → left ≡ attribute_of other value ∷ rest
    → AreSoFar kind all left noted → AreSoFar kind all rest noted
passed_over kind other value all left rest noted differs is so_far =
    let here : attribute_count kind left ≡ attribute_count kind rest =
    ap (attribute_count kind) is ∙ counted kind other value rest ∙ ap (λ (b : Bool). cond b 1 0 + attribute_count kind rest) differs ∙ none_before (attribute_count kind rest) in
    let first_here : first_of kind left ≡ first_of kind rest =
    ap (first_of kind) is ∙ ap (λ (b : Bool). cond b (Some value) (first_of kind rest)) differs in
    record {
      count = omega (arith, here, so_far.count);
      first = ap (λ (o : Option (List ℕ)). option_or (value_of noted.first) o) (sym first_here) ∙ so_far.first;
      few = omega (arith, so_far.few, ap (λ (x : List Attribute). length x) is);
    }

-- where there is no Proxy-State, they have no octets
passed_proxy : (attribute : Attribute) (attributes : List Attribute) (b : Bool) → (attribute.kind == PROXY_STATE) ≡ b → attribute_count PROXY_STATE (attribute ∷ attributes) ≡ 0
    → (attribute_count PROXY_STATE attributes ≡ 0) × (proxy_len (attribute ∷ attributes) ≡ proxy_len attributes)
passed_proxy attribute attributes b is none =
    let count_is : attribute_count PROXY_STATE (attribute ∷ attributes) ≡ cond (attribute.kind == PROXY_STATE) 1 0 + attribute_count PROXY_STATE attributes =
    sum_by-cons (λ (x : Attribute). cond (is_kind PROXY_STATE x) 1 0) attribute attributes in
    by b is (sym none ∙ count_is ∙ ap (λ (c : Bool). cond c 1 0 + attribute_count PROXY_STATE attributes) is)
  where
    by : (b : Bool) → (attribute.kind == PROXY_STATE) ≡ b → 0 ≡ cond b 1 0 + attribute_count PROXY_STATE attributes → (attribute_count PROXY_STATE attributes ≡ 0) × (proxy_len (attribute ∷ attributes) ≡ proxy_len attributes)
    by true is count = absurd (omega (arith, count))
    by false is count = (omega (arith, count), ap (λ (c : Bool). sum_by (λ a. length (attribute_octets a)) (cond c (attribute ∷ proxy_states attributes) (proxy_states attributes))) is)

pub none_to_repeat : (attributes : List Attribute) → attribute_count PROXY_STATE attributes ≡ 0 → proxy_len attributes ≡ 0
none_to_repeat [] none = refl
none_to_repeat (attribute ∷ attributes) none =
    let p = passed_proxy attribute attributes (attribute.kind == PROXY_STATE) refl none in
    p.1 ∙ none_to_repeat attributes p.0
