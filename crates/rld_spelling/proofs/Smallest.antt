-- The smallest fields are read as they are spelled.
use Rattle.std.proofs.Common.{◌≡◌, ◌⊎◌, inl, inr, ℕ, suc, ◌+◌, ◌<◌, ◌≤◌, Bool, true, false, cond, ltb, eqb, List, [], ◌∷◌, ◌++◌, length, take, drop, Result, Ok, Err, refl, sym, ap, subst, ◌∙◌, arith}
use Rattle.std.proofs.lemmas.Bool.{ltb-false, le-ltb, eqb-true}
use Rattle.std.proofs.lemmas.List.{take_at, drop_at, take-append-drop, length-append, length-take-le, get_or-append-add}
use Rattle.rld_spelling.specs.declared.fault.Cause.TheVariants.{CutShort, TooLong, UnknownTag}
use Rattle.rld_spelling.specs.declared.fault.Fault.{Fault}
use Rattle.rld_spelling.specs.Field.{Reading, IsRead, AreOctets, fault_at, then_read, made_of, nothing, octet, octet_at, fixed, fixed_at, short, short_at, flag, flag_at}

-- ---- what a step that did not fail gave

abbrev done : {A : Type 0} → A → Result A Fault
done x = Ok x

pub ok_is : {A : Type 0} (x y : A) → done x ≡ done y → x ≡ y
ok_is x y e = cc

pub then_ok : {A B : Type 0} (r : Reading A) (next : A → List ℕ → Reading B) (y : B × List ℕ) → then_read r next ≡ Ok y
    → (x : A × List ℕ) × (r ≡ Ok x) × (next x.0 x.1 ≡ Ok y)
then_ok (Ok x) next y e = (x, refl, e)
then_ok (Err fault) next y e = absurd cc

pub made_ok : {A B : Type 0} (make : A → B) (r : Reading A) (y : B × List ℕ) → made_of make r ≡ Ok y
    → (x : A × List ℕ) × (r ≡ Ok x) × (y ≡ (make x.0, x.1))
made_ok make (Ok x) y e = (x, refl, sym (ok_is (make x.0, x.1) y e))
made_ok make (Err fault) y e = absurd cc

-- which way a test went
pub chosen : {A : Type 0} (b : Bool) (x y z : A) → cond b x y ≡ z → ((b ≡ true) × (x ≡ z)) ⊎ ((b ≡ false) × (y ≡ z))
chosen true x y z e = inl (refl, e)
chosen false x y z e = inr (refl, e)

-- a test that did not fail
pub passed : {A : Type 0} (b : Bool) (fault : Fault) (x : Result A Fault) (y : A) → cond b (Err fault) x ≡ Ok y → (b ≡ false) × (x ≡ Ok y)
passed true fault x y e = absurd cc
passed false fault x y e = (refl, e)

-- ---- octets

pub octets_rest : (first : ℕ) (octets : List ℕ) → AreOctets (first ∷ octets) → AreOctets octets
octets_rest first octets h i = h (suc i)

pub octets_behind : (front rest : List ℕ) → AreOctets (front ++ rest) → AreOctets rest
octets_behind front rest h i = subst (λ (n : ℕ). n < 256) (get_or-append-add front rest i 0) (h (length front + i))

pub nothing_read : IsRead nothing
nothing_read = record {
  spelled = λ octets x rest are e. (ap (λ (y : Unit {0} × List ℕ). y.1) (ok_is (tt, octets) (x, rest) e), tt);
  again = λ x rest fits. refl;
}

octet_spelled : (octets : List ℕ) (x : ℕ) (rest : List ℕ) → AreOctets octets → octet_at octets ≡ Ok (x, rest) → (octets ≡ (x ∷ []) ++ rest) × (x < 256)
octet_spelled [] x rest are e = absurd cc
octet_spelled (first ∷ octets) x rest are e =
    let same = ok_is (first, octets) (x, rest) e in
    let first_is : first ≡ x = ap (λ (y : ℕ × List ℕ). y.0) same in
    let rest_is : octets ≡ rest = ap (λ (y : ℕ × List ℕ). y.1) same in
    (cc, subst (λ (n : ℕ). n < 256) first_is (are 0))

pub octet_read : IsRead octet
octet_read = record { spelled = octet_spelled; again = λ x rest fits. refl }

pub fixed_spelled : (count : ℕ) (octets x rest : List ℕ) → fixed_at count octets ≡ Ok (x, rest) → (octets ≡ x ++ rest) × (length x ≡ count)
unfolding fixed_at
fixed_spelled count octets x rest e =
    let one : Reading (List ℕ) = Ok (take count octets, drop count octets) in
    let p = passed (ltb (length octets) count) (record { cause = CutShort; left = length octets }) one (x, rest) e in
    let long : count ≤ length octets = ltb-false (length octets) count p.0 in
    let same = ok_is (take count octets, drop count octets) (x, rest) p.1 in
    let front_is : take count octets ≡ x = ap (λ (y : List ℕ × List ℕ). y.0) same in
    let rest_is : drop count octets ≡ rest = ap (λ (y : List ℕ × List ℕ). y.1) same in
    (sym (take-append-drop count octets) ∙ ap (λ (y : List ℕ × List ℕ). y.0 ++ y.1) same, sym (ap length front_is) ∙ length-take-le count octets long)

pub fixed_again : (count : ℕ) (x rest : List ℕ) → length x ≡ count → fixed_at count (x ++ rest) ≡ Ok (x, rest)
unfolding fixed_at
fixed_again count x rest fits =
    let long : ltb (length (x ++ rest)) count ≡ false = le-ltb (length (x ++ rest)) count (omega (arith, length-append x rest)) in
    rw (long, take_at x rest count fits, drop_at x rest count fits) refl

pub fixed_read : (count : ℕ) → IsRead (fixed count)
fixed_read count = record { spelled = λ octets x rest are e. fixed_spelled count octets x rest e; again = fixed_again count }

short_spelled : (octets x rest : List ℕ) → AreOctets octets → short_at octets ≡ Ok (x, rest) → (octets ≡ (length x ∷ x) ++ rest) × (length x ≤ 253)
unfolding short_at
short_spelled [] x rest are e = absurd cc
short_spelled (count ∷ octets) x rest are e =
    let p = passed (ltb 253 count) (record { cause = TooLong; left = length (count ∷ octets) }) (fixed_at count octets) (x, rest) e in
    let few : count ≤ 253 = ltb-false 253 count p.0 in
    let s = fixed_spelled count octets x rest p.1 in
    (ap (λ (l : List ℕ). count ∷ l) s.0 ∙ ap (λ (n : ℕ). n ∷ (x ++ rest)) (sym s.1), omega (arith, s.1, few))

short_again : (x rest : List ℕ) → length x ≤ 253 → short_at ((length x ∷ x) ++ rest) ≡ Ok (x, rest)
unfolding short_at
short_again x rest fits =
    let few : ltb 253 (length x) ≡ false = le-ltb 253 (length x) fits in
    rw few (fixed_again (length x) x rest refl)

pub short_read : IsRead short
short_read = record { spelled = short_spelled; again = short_again }

flag_spelled_at : (octets : List ℕ) (x : Bool) (rest : List ℕ) → AreOctets octets → flag_at octets ≡ Ok (x, rest) → (octets ≡ flag.spell x ++ rest) × Unit {0}
unfolding flag_at
flag_spelled_at [] x rest are e = absurd cc
flag_spelled_at (tag ∷ octets) x rest are e =
    let no : Reading Bool = Ok (false, octets) in
    let yes : Reading Bool = Ok (true, octets) in
    let unknown : Reading Bool = fault_at UnknownTag (tag ∷ octets) in
    let family = λ (y : Bool × List ℕ). (tag ∷ octets ≡ flag.spell y.0 ++ y.1) × Unit {0} in
    elim (chosen (eqb tag 0) no (cond (eqb tag 1) yes unknown) (Ok (x, rest)) e) [
      | inl p ↦ subst family (ok_is (false, octets) (x, rest) p.1) (ap (λ (n : ℕ). n ∷ octets) (eqb-true tag 0 p.0), tt)
      | inr p ↦ elim (chosen (eqb tag 1) yes unknown (Ok (x, rest)) p.1) [
        | inl q ↦ subst family (ok_is (true, octets) (x, rest) q.1) (ap (λ (n : ℕ). n ∷ octets) (eqb-true tag 1 q.0), tt)
        | inr q ↦ absurd cc
      ]
    ]

flag_again : (x : Bool) (rest : List ℕ) → Unit {0} → flag_at (flag.spell x ++ rest) ≡ Ok (x, rest)
unfolding flag_at
flag_again false rest fits = refl
flag_again true rest fits = refl

pub flag_read : IsRead flag
flag_read = record { spelled = flag_spelled_at; again = flag_again }
