-- Fields that are made of others are read as they are spelled, if those are.
use Rattle.std.proofs.Common.{◌≡◌, ◌⊎◌, inl, inr, ℕ, zero, suc, Bool, true, false, cond, eqb, List, [], ◌∷◌, ◌++◌, length, Option, Some, None, Ok, refl, sym, ap, subst, ◌∙◌, append_assoc}
use Rattle.std.specs.List.{flat_map, AllByRecursion}
use Rattle.std.proofs.lemmas.Bool.{eqb-true}
use Rattle.std.proofs.lemmas.List.Elements.{All-from_recursion, recursion_from_All}
use Rattle.rld_spelling.specs.Field.{Field, Reading, IsRead, AreOctets, fault_at, then_read, made_of, both, seen_as, passing, checked, flag, flag_at, optional, option_behind}
use Rattle.rld_spelling.specs.declared.fault.Cause.{Cause}
use Rattle.rld_spelling.specs.Numbers.{number}
use Rattle.rld_spelling.specs.Lists.{values_at, listed, list_of}
use Rattle.rld_spelling.proofs.Smallest.{ok_is, then_ok, made_ok, chosen, octets_rest, octets_behind, flag_read}
use Rattle.rld_spelling.proofs.Numbered.{number_read}

-- what is behind a value that was read is octets too
pub behind_read : {A : Type 0} (a : Field A) → IsRead a → (octets : List ℕ) (x : A) (rest : List ℕ) → AreOctets octets → a.read octets ≡ Ok (x, rest) → AreOctets rest
behind_read a ra octets x rest are e = octets_behind (a.spell x) rest (subst AreOctets (ra.spelled octets x rest are e).0 are)

pub both_read : {A B : Type 0} (a : Field A) (b : Field B) → IsRead a → IsRead b → IsRead (both a b)
both_read {A = A} {B = B} a b ra rb = record {
  spelled = λ octets x rest are e.
      let p = then_ok (a.read octets) (λ x rest. made_of (λ y. (x, y)) (b.read rest)) (x, rest) e in
      let q = made_ok (λ (y : B). (let pair : A × B = (p.0.0, y) in pair)) (b.read p.0.1) (x, rest) p.2 in
      let s = ra.spelled octets p.0.0 p.0.1 are p.1 in
      let t = rb.spelled p.0.1 q.0.0 q.0.1 (behind_read a ra octets p.0.0 p.0.1 are p.1) q.1 in
      subst (λ (y : (A × B) × List ℕ). (octets ≡ (a.spell y.0.0 ++ b.spell y.0.1) ++ y.1) × (a.Fits y.0.0 × b.Fits y.0.1)) (sym q.2)
      (s.0 ∙ ap (λ (l : List ℕ). a.spell p.0.0 ++ l) t.0 ∙ sym (append_assoc (a.spell p.0.0) (b.spell q.0.0) q.0.1), (s.1, t.1));
  again = λ x rest fits.
      ap (λ (l : List ℕ). then_read (a.read l) (λ x rest. made_of (λ y. (x, y)) (b.read rest))) (append_assoc (a.spell x.0) (b.spell x.1) rest)
      ∙ ap (λ (r : Reading A). then_read r (λ x rest. made_of (λ y. (x, y)) (b.read rest))) (ra.again x.0 (b.spell x.1 ++ rest) fits.0)
      ∙ ap (λ (r : Reading B). made_of (λ y. (x.0, y)) r) (rb.again x.1 rest fits.1);
}

pub seen_as_read : {A B : Type 0} (make : A → B) (parts : B → A) (a : Field A)
    → ((x : A) → parts (make x) ≡ x) → ((y : B) → make (parts y) ≡ y) → IsRead a → IsRead (seen_as make parts a)
seen_as_read {A = A} {B = B} make parts a there back ra = record {
  spelled = λ octets y rest are e.
      let p = made_ok make (a.read octets) (y, rest) e in
      let s = ra.spelled octets p.0.0 p.0.1 are p.1 in
      let same : parts (make p.0.0) ≡ p.0.0 = there p.0.0 in
      let made : (octets ≡ a.spell (parts (make p.0.0)) ++ p.0.1) × a.Fits (parts (make p.0.0)) =
      subst (λ (x : A). (octets ≡ a.spell x ++ p.0.1) × a.Fits x) (sym same) s in
      subst (λ (z : B × List ℕ). (octets ≡ a.spell (parts z.0) ++ z.1) × a.Fits (parts z.0)) (sym p.2) made;
  again = λ y rest fits.
      ap (λ (r : Reading A). made_of make r) (ra.again (parts y) rest fits)
      ∙ ap (λ (z : B). (let given : Reading B = Ok (z, rest) in given)) (back y);
}

option_step : {A : Type 0} (a : Field A) → IsRead a → (octets : List ℕ) (there : Bool) (left : List ℕ) (x : Option A) (rest : List ℕ)
    → octets ≡ flag.spell there ++ left → AreOctets left → option_behind a there left ≡ Ok (x, rest) → (octets ≡ (optional a).spell x ++ rest) × (optional a).Fits x
option_step {A = A} a ra octets false left x rest s are e =
    subst (λ (y : Option A × List ℕ). (octets ≡ (optional a).spell y.0 ++ y.1) × (optional a).Fits y.0) (ok_is (None, left) (x, rest) e) (s, tt)
option_step {A = A} a ra octets true left x rest s are e =
    let m = made_ok (λ (y : A). (let given : Option A = Some y in given)) (a.read left) (x, rest) e in
    let t = ra.spelled left m.0.0 m.0.1 are m.1 in
    subst (λ (y : Option A × List ℕ). (octets ≡ (optional a).spell y.0 ++ y.1) × (optional a).Fits y.0) (sym m.2) (s ∙ ap (λ (l : List ℕ). 1 ∷ l) t.0, t.1)

option_again : {A : Type 0} (a : Field A) → IsRead a → (x : Option A) (rest : List ℕ) → (optional a).Fits x → (optional a).read ((optional a).spell x ++ rest) ≡ Ok (x, rest)
option_again {A = A} a ra None rest fits = ap (λ (r : Reading Bool). then_read r (option_behind a)) (flag_read.again false rest tt)
option_again {A = A} a ra (Some x) rest fits =
    ap (λ (r : Reading Bool). then_read r (option_behind a)) (flag_read.again true (a.spell x ++ rest) tt)
    ∙ ap (λ (r : Reading A). made_of (λ (y : A). (let given : Option A = Some y in given)) r) (ra.again x rest fits)

pub optional_read : {A : Type 0} (a : Field A) → IsRead a → IsRead (optional a)
optional_read a ra = record {
  spelled = λ octets x rest are e.
      let p = then_ok (flag_at octets) (option_behind a) (x, rest) e in
      let s = flag_read.spelled octets p.0.0 p.0.1 are p.1 in
      option_step a ra octets p.0.0 p.0.1 x rest s.0 (behind_read flag flag_read octets p.0.0 p.0.1 are p.1) p.2;
  again = option_again a ra;
}

-- ---- lists

values_spelled : {A : Type 0} (a : Field A) → IsRead a → (count : ℕ) (octets : List ℕ) (xs : List A) (rest : List ℕ) → AreOctets octets → values_at a.read count octets ≡ Ok (xs, rest)
    → (octets ≡ flat_map a.spell xs ++ rest) × (length xs ≡ count) × AllByRecursion a.Fits xs
unfolding values_at
values_spelled {A = A} a ra zero octets xs rest are e =
    subst (λ (y : List A × List ℕ). (octets ≡ flat_map a.spell y.0 ++ y.1) × (length y.0 ≡ 0) × AllByRecursion a.Fits y.0) (ok_is ([], octets) (xs, rest) e) (refl, refl, tt)
values_spelled {A = A} a ra (suc count) octets xs rest are e =
    let p = then_ok (a.read octets) (λ x rest. made_of (λ xs. x ∷ xs) (values_at a.read count rest)) (xs, rest) e in
    let q = made_ok (λ (ys : List A). p.0.0 ∷ ys) (values_at a.read count p.0.1) (xs, rest) p.2 in
    let s = ra.spelled octets p.0.0 p.0.1 are p.1 in
    let t = values_spelled a ra count p.0.1 q.0.0 q.0.1 (behind_read a ra octets p.0.0 p.0.1 are p.1) q.1 in
    subst (λ (y : List A × List ℕ). (octets ≡ flat_map a.spell y.0 ++ y.1) × (length y.0 ≡ suc count) × AllByRecursion a.Fits y.0) (sym q.2)
    (s.0 ∙ ap (λ (l : List ℕ). a.spell p.0.0 ++ l) t.0 ∙ sym (append_assoc (a.spell p.0.0) (flat_map a.spell q.0.0) q.0.1), ap (λ (n : ℕ). suc n) t.1, (s.1, t.2))

values_again : {A : Type 0} (a : Field A) → IsRead a → (xs : List A) (rest : List ℕ) → AllByRecursion a.Fits xs → values_at a.read (length xs) (flat_map a.spell xs ++ rest) ≡ Ok (xs, rest)
unfolding values_at
values_again a ra [] rest fits = refl
values_again {A = A} a ra (x ∷ xs) rest fits =
    ap (λ (l : List ℕ). then_read (a.read l) (λ y rest. made_of (λ ys. y ∷ ys) (values_at a.read (length xs) rest))) (append_assoc (a.spell x) (flat_map a.spell xs) rest)
    ∙ ap (λ (r : Reading A). then_read r (λ y rest. made_of (λ ys. y ∷ ys) (values_at a.read (length xs) rest))) (ra.again x (flat_map a.spell xs ++ rest) fits.0)
    ∙ ap (λ (r : Reading (List A)). made_of (λ ys. x ∷ ys) r) (values_again a ra xs rest fits.1)

pub listed_read : {A : Type 0} (count : Field ℕ) (a : Field A) → IsRead count → IsRead a → IsRead (listed count a)
listed_read {A = A} count a rn ra = record {
  spelled = λ octets xs rest are e.
      let p = then_ok (count.read octets) (values_at a.read) (xs, rest) e in
      let s = rn.spelled octets p.0.0 p.0.1 are p.1 in
      let t = values_spelled a ra p.0.0 p.0.1 xs rest (behind_read count rn octets p.0.0 p.0.1 are p.1) p.2 in (
        s.0 ∙ ap (λ (n : ℕ). count.spell n ++ p.0.1) (sym t.1) ∙ ap (λ (l : List ℕ). count.spell (length xs) ++ l) t.0 ∙ sym (append_assoc (count.spell (length xs)) (flat_map a.spell xs) rest),
        (subst count.Fits (sym t.1) s.1, All-from_recursion a.Fits xs t.2),
      );
  again = λ xs rest fits.
      ap (λ (l : List ℕ). then_read (count.read l) (values_at a.read)) (append_assoc (count.spell (length xs)) (flat_map a.spell xs) rest)
      ∙ ap (λ (r : Reading ℕ). then_read r (values_at a.read)) (rn.again (length xs) (flat_map a.spell xs ++ rest) fits.0)
      ∙ values_again a ra xs rest (recursion_from_All a.Fits xs fits.1);
}

pub list_read : {A : Type 0} (a : Field A) → IsRead a → IsRead (list_of a)
list_read a ra = listed_read number a number_read ra

-- ---- values that pass a check

pub checked_read : {A : Type 0} (cause : Cause) (check : A → Bool) (a : Field A) → IsRead a → IsRead (checked cause check a)
checked_read {A = A} cause check a ra = record {
  spelled = λ octets x rest are e.
      let p = then_ok (a.read octets) (passing cause check octets) (x, rest) e in
      let one : Reading A = Ok p.0 in
      let s = ra.spelled octets p.0.0 p.0.1 are p.1 in
      elim (chosen (check p.0.0) one (fault_at cause octets) (Ok (x, rest)) p.2) [
        | inl q ↦ subst (λ (y : A × List ℕ). (octets ≡ a.spell y.0 ++ y.1) × (a.Fits y.0 × (check y.0 ≡ true))) (ok_is p.0 (x, rest) q.1) (s.0, (s.1, q.0))
        | inr q ↦ absurd cc
      ];
  again = λ x rest fits. rw (ra.again x rest fits.0, fits.1) refl;
}

-- ---- values of several cases, each behind its tag

-- whether the first octet is this tag
pub tag_case : {A : Type 0} (first tag : ℕ) (x y z : A) → cond (eqb first tag) x y ≡ z → ((first ≡ tag) × (x ≡ z)) ⊎ (y ≡ z)
tag_case first tag x y z e =
    elim (chosen (eqb first tag) x y z e) [ inl p ↦ inl (eqb-true first tag p.0, p.1) | inr p ↦ inr p.1 ]

-- what was read as one case is spelled so
pub case_spelled : {A B : Type 0} (field : Field B) (a : Field A) → IsRead a → (make : A → B) (tag : ℕ)
    → ((x : A) → a.Fits x → field.spell (make x) ≡ tag ∷ a.spell x) → ((x : A) → a.Fits x → field.Fits (make x))
    → (first : ℕ) (octets : List ℕ) (y : B) (rest : List ℕ) → first ≡ tag → AreOctets (first ∷ octets) → made_of make (a.read octets) ≡ Ok (y, rest)
    → (first ∷ octets ≡ field.spell y ++ rest) × field.Fits y
case_spelled {A = A} {B = B} field a ra make tag spells fits first octets y rest same are e =
    let p = made_ok make (a.read octets) (y, rest) e in
    let s = ra.spelled octets p.0.0 p.0.1 (octets_rest first octets are) p.1 in
    let whole : first ∷ octets ≡ field.spell (make p.0.0) ++ p.0.1 =
    ap (λ (n : ℕ). n ∷ octets) same ∙ ap (λ (l : List ℕ). tag ∷ l) s.0 ∙ ap (λ (l : List ℕ). l ++ p.0.1) (sym (spells p.0.0 s.1)) in
    subst (λ (z : B × List ℕ). (first ∷ octets ≡ field.spell z.0 ++ z.1) × field.Fits z.0) (sym p.2) (whole, fits p.0.0 s.1)
