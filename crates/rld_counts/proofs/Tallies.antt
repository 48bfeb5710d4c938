-- Laws of tallies.
use Rattle.std.proofs.Common.{◌≡◌, ℕ, suc, zero, ◌+◌, ◌<◌, ◌≤◌, Bool, false, cond, eqb, ltb, List, [], ◌∷◌, ◌++◌, length, get_or, set, map, sum, sym, refl, ap, ◌∙◌, arith, inl, inr}
use Rattle.std.specs.Prelude.{count_by}
use Rattle.std.specs.List.{range_with_len}
use Rattle.std.proofs.lemmas.Bool.{cases_eq, cases_lt, eq-eqb, ne_eqb, lt-ltb, le-ltb}
use Rattle.std.proofs.lemmas.List.{get_or-set_same, get_or-set_other, length-set}
use Rattle.std.proofs.lemmas.List.FromFn.{length-map-range_with_len, get_or-map-range_with_len, fill_by_all}
use Rattle.std.proofs.lemmas.List.Sums.{sum_by-append, sum_by_push, sum_by-cons}
use Rattle.rld_counts.specs.Tally.{kept, how_many, tally_of}

-- ---- one counter

how_many_push : (number one : ℕ) (numbers : List ℕ) → how_many number (numbers ++ one ∷ []) ≡ how_many number numbers + cond (eqb one number) 1 0
unfolding how_many
how_many_push number one numbers = sum_by_push (λ one. cond (eqb one number) 1 0) numbers one

how_many_append : (number : ℕ) (numbers others : List ℕ) → how_many number (numbers ++ others) ≡ how_many number numbers + how_many number others
unfolding how_many
how_many_append number numbers others = sum_by-append (λ one. cond (eqb one number) 1 0) numbers others

how_many_none : (number : ℕ) → how_many number [] ≡ 0
unfolding how_many
how_many_none number = refl

how_many_cons : (number one : ℕ) (numbers : List ℕ) → how_many number (one ∷ numbers) ≡ cond (eqb one number) 1 0 + how_many number numbers
unfolding how_many
how_many_cons number one numbers = sum_by-cons (λ one. cond (eqb one number) 1 0) one numbers

-- ---- all counters

pub length-tally_of : (size : ℕ) (numbers : List ℕ) → length (tally_of size numbers) ≡ size
unfolding tally_of
length-tally_of size numbers = length-map-range_with_len (λ number. kept (how_many number numbers)) 0 size

pub counter_of : (size number : ℕ) (numbers : List ℕ) → number < size → get_or (tally_of size numbers) number 0 ≡ kept (how_many number numbers)
unfolding tally_of
counter_of size number numbers below =
    get_or-map-range_with_len (λ number. kept (how_many number numbers)) 0 size number number 0 below (omega arith)

is_tally : (size : ℕ) (numbers counters : List ℕ) → length counters ≡ size → ((k : ℕ) → k < size → get_or counters k 0 ≡ kept (how_many k numbers)) → counters ≡ tally_of size numbers
unfolding tally_of
is_tally size numbers counters len each = fill_by_all (λ number. kept (how_many number numbers)) counters size 0 len each

kept_more : (count : ℕ) → kept (kept count + 1) ≡ kept (count + 1)
kept_more count = omega arith

kept_sum : (one other : ℕ) → kept (kept one + kept other) ≡ kept (one + other)
kept_sum one other = omega arith

-- a number is counted once more
pub tally_push : (size one : ℕ) (numbers old new : List ℕ) → one < size → old ≡ tally_of size numbers → new ≡ set old one (kept (get_or old one 0 + 1))
    → new ≡ tally_of size (numbers ++ one ∷ [])
tally_push size one numbers old new below was made =
    let len : length old ≡ size = ap length was ∙ length-tally_of size numbers in
    let in_old : one < length old = omega arith in
    is_tally size (numbers ++ one ∷ []) new (ap length made ∙ length-set old one _ ∙ len)
    (λ (k : ℕ) (h : k < size).
    let told : get_or old k 0 ≡ kept (how_many k numbers) = ap (λ (l : List ℕ). get_or l k 0) was ∙ counter_of size k numbers h in
    elim (cases_eq one k) [
      | inl same ↦
          let now : get_or new k 0 ≡ kept (get_or old one 0 + 1) =
          ap (λ (l : List ℕ). get_or l k 0) made ∙ ap (λ (j : ℕ). get_or (set old one (kept (get_or old one 0 + 1))) j 0) (sym same) ∙ get_or-set_same old one _ 0 in_old in
          let more : how_many k (numbers ++ one ∷ []) ≡ how_many k numbers + 1 =
          how_many_push k one numbers ∙ ap (λ (b : Bool). how_many k numbers + cond b 1 0) (eq-eqb one k same) in
          let before : get_or old one 0 ≡ kept (how_many k numbers) = ap (λ (j : ℕ). get_or old j 0) same ∙ told in
          now ∙ ap (λ (n : ℕ). kept (n + 1)) before ∙ kept_more (how_many k numbers) ∙ ap kept (sym more)
      | inr other ↦
          let now : get_or new k 0 ≡ get_or old k 0 =
          ap (λ (l : List ℕ). get_or l k 0) made ∙ get_or-set_other old one k _ 0 (λ e. other (sym e)) in
          let more : how_many k (numbers ++ one ∷ []) ≡ how_many k numbers =
          how_many_push k one numbers ∙ ap (λ (b : Bool). how_many k numbers + cond b 1 0) (ne_eqb one k other) ∙ omega arith in
          now ∙ told ∙ ap kept (sym more)
    ])

-- two tallies are added
pub tally_append : (size : ℕ) (numbers others old other new : List ℕ) → old ≡ tally_of size numbers → other ≡ tally_of size others → length new ≡ length old
    → ((k : ℕ) → k < length new → get_or new k 0 ≡ kept (get_or old k 0 + get_or other k 0))
    → new ≡ tally_of size (numbers ++ others)
tally_append size numbers others old other new was added len each =
    let long : length old ≡ size = ap length was ∙ length-tally_of size numbers in
    is_tally size (numbers ++ others) new (len ∙ long)
    (λ (k : ℕ) (h : k < size).
    let below : k < length new = omega arith in
    let told : get_or old k 0 ≡ kept (how_many k numbers) = ap (λ (l : List ℕ). get_or l k 0) was ∙ counter_of size k numbers h in
    let more : get_or other k 0 ≡ kept (how_many k others) = ap (λ (l : List ℕ). get_or l k 0) added ∙ counter_of size k others h in
    each k below ∙ ap (λ (n : ℕ). kept (n + get_or other k 0)) told ∙ ap (λ (n : ℕ). kept (kept (how_many k numbers) + n)) more
    ∙ kept_sum (how_many k numbers) (how_many k others) ∙ ap kept (sym (how_many_append k numbers others)))

-- ---- the sum of all counters

-- how many of the numbers are from a number on, below that number and a size more
within : (from size : ℕ) → (numbers : List ℕ) → ℕ
within from zero numbers = 0
within from (suc size) numbers = how_many from numbers + within (from + 1) size numbers

within_none : (from size : ℕ) → within from size [] ≡ 0
unfolding within
within_none from zero = refl
within_none from (suc size) = ap (λ (n : ℕ). n + within (from + 1) size []) (how_many_none from) ∙ ap (λ (n : ℕ). 0 + n) (within_none (from + 1) size) ∙ omega arith

-- whether a number is among them
among : (from size one : ℕ) → ℕ
among from zero one = 0
among from (suc size) one = cond (eqb one from) 1 0 + among (from + 1) size one

within_cons : (from size one : ℕ) (numbers : List ℕ) → within from size (one ∷ numbers) ≡ among from size one + within from size numbers
unfolding within among
within_cons from zero one numbers = refl
within_cons from (suc size) one numbers =
    let first = how_many_cons from one numbers in
    let rest = within_cons (from + 1) size one numbers in
    omega (arith, first, rest)

among_less : (from size one : ℕ) → one < from → among from size one ≡ 0
unfolding among
among_less from zero one less = refl
among_less from (suc size) one less =
    let no : eqb one from ≡ false = ne_eqb one from (λ e. omega arith) in
    let rest : among (from + 1) size one ≡ 0 = among_less (from + 1) size one (omega arith) in
    ap (λ (b : Bool). cond b 1 0 + among (from + 1) size one) no ∙ ap (λ (n : ℕ). 0 + n) rest ∙ omega arith

among_above : (from size one : ℕ) → from + size ≤ one → among from size one ≡ 0
unfolding among
among_above from zero one above = refl
among_above from (suc size) one above =
    let no : eqb one from ≡ false = ne_eqb one from (λ e. omega arith) in
    let rest : among (from + 1) size one ≡ 0 = among_above (from + 1) size one (omega arith) in
    ap (λ (b : Bool). cond b 1 0 + among (from + 1) size one) no ∙ ap (λ (n : ℕ). 0 + n) rest ∙ omega arith

among_in : (from size one : ℕ) → from ≤ one → one < from + size → among from size one ≡ 1
unfolding among
among_in from zero one low high = absurd (omega arith)
among_in from (suc size) one low high =
    elim (cases_eq one from) [
      | inl same ↦
          ap (λ (b : Bool). cond b 1 0 + among (from + 1) size one) (eq-eqb one from same) ∙ ap (λ (n : ℕ). 1 + n) (among_less (from + 1) size one (omega arith)) ∙ omega arith
      | inr other ↦
          let later : from + 1 ≤ one = omega arith in
          ap (λ (b : Bool). cond b 1 0 + among (from + 1) size one) (ne_eqb one from other) ∙ ap (λ (n : ℕ). 0 + n) (among_in (from + 1) size one later (omega arith)) ∙ omega arith
    ]

among_below : (size one : ℕ) → among 0 size one ≡ cond (ltb one size) 1 0
among_below size one =
    elim (cases_lt one size) [
      | inl less ↦ among_in 0 size one (omega arith) (omega arith) ∙ sym (ap (λ (b : Bool). cond b 1 0) (lt-ltb one size less))
      | inr more ↦ among_above 0 size one (omega arith) ∙ sym (ap (λ (b : Bool). cond b 1 0) (le-ltb one size more))
    ]

within_below : (size : ℕ) (numbers : List ℕ) → within 0 size numbers ≡ count_by (λ one. ltb one size) numbers
within_below size [] = within_none 0 size
within_below size (one ∷ numbers) =
    within_cons 0 size one numbers
    ∙ ap (λ (n : ℕ). n + within 0 size numbers) (among_below size one)
    ∙ ap (λ (n : ℕ). cond (ltb one size) 1 0 + n) (within_below size numbers)
    ∙ sym (sum_by-cons (λ one. cond (ltb one size) 1 0) one numbers)

sum_kept : (from size : ℕ) (numbers : List ℕ) → kept (sum (map (λ number. kept (how_many number numbers)) (range_with_len from size))) ≡ kept (within from size numbers)
unfolding within
sum_kept from zero numbers = refl
sum_kept from (suc size) numbers =
    let rest = sum_kept (from + 1) size numbers in
    let cons = sum_by-cons (λ x. x) (kept (how_many from numbers)) (map (λ number. kept (how_many number numbers)) (range_with_len (from + 1) size)) in
    omega (arith, rest, cons)

-- it is how many there are, of the numbers below the size
pub sum-tally_of : (size : ℕ) (numbers : List ℕ) → kept (sum (tally_of size numbers)) ≡ kept (count_by (λ one. ltb one size) numbers)
unfolding tally_of
sum-tally_of size numbers = sum_kept 0 size numbers ∙ ap kept (within_below size numbers)
