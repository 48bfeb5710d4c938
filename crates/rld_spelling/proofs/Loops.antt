-- Values that are read one behind the other, as a loop does.
use Rattle.std.proofs.Common.{◌≡◌, ℕ, suc, ◌-◌, ◌+◌, ◌≤◌, ◌<◌, List, [], ◌∷◌, ◌++◌, Ok, Err, refl, sym, ap, ◌∙◌, append_assoc, arith}
use Rattle.std.proofs.lemmas.List.{append-nil}
use Rattle.rld_spelling.specs.declared.fault.ReadFault.{ReadFault}
use Rattle.rld_spelling.specs.declared.fault.ReadFault.TheVariants.{NoMemory, Malformed}
use Rattle.rld_spelling.specs.Field.{Reading, made_of}
use Rattle.rld_spelling.specs.Lists.{values_at}
use Rattle.rld_spelling.specs.Read.{FaultIs}

-- what was read before, and what is still read
abbrev pub with_front : {A : Type 0} → List A → Reading (List A) → Reading (List A)
with_front front reading = made_of (λ xs. front ++ xs) reading

pub front_none : {A : Type 0} (reading : Reading (List A)) → with_front [] reading ≡ reading
front_none (Ok x) = refl
front_none (Err fault) = refl

regrouped : {A : Type 0} (front : List A) (x : A) (reading : Reading (List A)) → with_front front (made_of (λ xs. x ∷ xs) reading) ≡ with_front (front ++ x ∷ []) reading
regrouped {A = A} front x (Ok xs) = ap (λ (l : List A). (let given : Reading (List A) = Ok (l, xs.1) in given)) (sym (append_assoc front (x ∷ []) xs.0))
regrouped front x (Err fault) = refl

-- one more was read
pub front_more : {A : Type 0} (read : List ℕ → Reading A) (front : List A) (count i : ℕ) (octets : List ℕ) (x : A) (left : List ℕ) (total : Reading (List A)) → i < count → read octets ≡ Ok (x, left)
    → with_front front (values_at read (count - i) octets) ≡ total → with_front (front ++ x ∷ []) (values_at read (count - (i + 1)) left) ≡ total
unfolding values_at
front_more read front count i octets x left total lt e so_far =
    let k : count - i ≡ suc (count - (i + 1)) = omega arith in
    let one : with_front front (values_at read (count - i) octets) ≡ with_front (front ++ x ∷ []) (values_at read (count - (i + 1)) left) =
    rw (k, e) (regrouped front x (values_at read (count - (i + 1)) left)) in
    sym one ∙ so_far

-- one was not
pub front_fault : {A : Type 0} (fault : ReadFault) (read : List ℕ → Reading A) (front : List A) (count i : ℕ) (octets : List ℕ) (total : Reading (List A)) → i < count → FaultIs fault (read octets)
    → with_front front (values_at read (count - i) octets) ≡ total → FaultIs fault total
unfolding values_at
front_fault NoMemory read front count i octets total lt e so_far = tt
front_fault (Malformed fault) read front count i octets total lt e so_far =
    let k : count - i ≡ suc (count - (i + 1)) = omega arith in
    let one : with_front front (values_at read (count - i) octets) ≡ Err fault = rw (k, e) refl in
    sym so_far ∙ one

-- all were
pub front_all : {A : Type 0} (read : List ℕ → Reading A) (front : List A) (count i : ℕ) (octets : List ℕ) (total : Reading (List A)) → count ≤ i
    → with_front front (values_at read (count - i) octets) ≡ total → total ≡ Ok (front, octets)
unfolding values_at
front_all {A = A} read front count i octets total le so_far =
    let k : count - i ≡ 0 = omega arith in
    let one : with_front front (values_at read (count - i) octets) ≡ Ok (front, octets) = rw k (ap (λ (xs : List A). (let given : Reading (List A) = Ok (xs, octets) in given)) (append-nil front)) in
    sym so_far ∙ one

pub ruleset front_steps = (front_none, front_more, front_all)
