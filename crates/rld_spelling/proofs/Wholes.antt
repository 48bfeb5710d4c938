-- A value that takes all of the octets, and one that is at their front.
use Rattle.std.proofs.Common.{◌≡◌, ℕ, List, [], ◌∷◌, Result, Ok, Err, sym, ap, subst, ◌∙◌}
use Rattle.std.specs.Borrow.{Bor}
use Rattle.std.specs.Prelude.{◌++◌, IfOk}
use Rattle.std.proofs.lemmas.List.{append-nil}
use Rattle.rld_spelling.specs.declared.fault.Fault.{Fault}
use Rattle.rld_spelling.specs.declared.fault.ReadFault.{ReadFault}
use Rattle.rld_spelling.specs.Field.{Field, Reading, IsRead, AreOctets}
use Rattle.rld_spelling.specs.Lists.{all_of}
use Rattle.rld_spelling.specs.Read.{Gives, IsFront, ReadsFront}
use Rattle.rld_spelling.proofs.Smallest.{ok_is}

all_ok : {A : Type 0} (r : Reading A) (x : A) → all_of r ≡ Ok x → r ≡ Ok (x, [])
all_ok {A = A} (Ok (y, [])) x e = ap (λ (z : A). (let given : Reading A = Ok (z, []) in given)) (ok_is y x e)
all_ok (Ok (y, octet ∷ rest)) x e = absurd cc
all_ok (Err fault) x e = absurd cc

pub all_spelled : {A : Type 0} (field : Field A) → IsRead field → (octets : List ℕ) (x : A) → AreOctets octets → all_of (field.read octets) ≡ Ok x
    → (octets ≡ field.spell x) × field.Fits x
all_spelled field is octets x are e =
    let s = is.spelled octets x [] are (all_ok (field.read octets) x e) in
    (s.0 ∙ append-nil (field.spell x), s.1)

pub all_again : {A : Type 0} (field : Field A) → IsRead field → (octets : List ℕ) (x : A) → field.Fits x → octets ≡ field.spell x → all_of (field.read octets) ≡ Ok x
all_again {A = A} field is octets x fits e =
    ap (λ (o : List ℕ). all_of (field.read o)) (e ∙ sym (append-nil (field.spell x)))
    ∙ ap (λ (r : Reading A). all_of r) (is.again x [] fits)

-- what a function that reads all of the octets found is spelled so in them
pub all_found : {X A : Type 0} (field : Field A) → IsRead field → (view : X → A) (octets : List ℕ) (result : Result X ReadFault) → AreOctets octets
    → Gives view result (all_of (field.read octets)) → IfOk result (λ x. (octets ≡ field.spell (view x)) × field.Fits (view x))
all_found field is view octets (Ok x) are gives = all_spelled field is octets (view x) are gives
all_found field is view octets (Err fault) are gives = tt

-- and it finds what is spelled so
pub all_only : {X A : Type 0} (field : Field A) → IsRead field → (view : X → A) (octets : List ℕ) (result : Result X ReadFault) → Gives view result (all_of (field.read octets))
    → (x : A) → field.Fits x → octets ≡ field.spell x → Gives view result (Ok x)
all_only {A = A} field is view octets result gives x fits e =
    subst (λ (r : Result A Fault). Gives view result r) (all_again field is octets x fits e) gives

-- what was read at the front of octets is spelled so there
pub front_found : {A : Type 0} (field : Field A) → IsRead field → (octets : List ℕ) (result : Result (A × Bor (List ℕ)) Fault) → AreOctets octets
    → ReadsFront result (field.read octets) → IfOk result (λ front. (octets ≡ field.spell front.0 ++ front.1.now) × field.Fits front.0)
front_found field is octets (Ok front) are e = is.spelled octets front.0 front.1.now are e
front_found field is octets (Err fault) are e = tt

front_is : {A : Type 0} (x : A) (rest : List ℕ) (result : Result (A × Bor (List ℕ)) Fault) → ReadsFront result (Ok (x, rest)) → IsFront result x rest
front_is {A = A} x rest (Ok front) e =
    let same = ok_is (x, rest) (front.0, front.1.now) e in
    (sym (ap (λ (p : A × List ℕ). p.0) same), sym (ap (λ (p : A × List ℕ). p.1) same))
front_is x rest (Err fault) e = absurd cc

-- and what is spelled so there is read
pub front_only : {A : Type 0} (field : Field A) → IsRead field → (octets : List ℕ) (result : Result (A × Bor (List ℕ)) Fault)
    → ReadsFront result (field.read octets) → (x : A) (rest : List ℕ) → field.Fits x → octets ≡ field.spell x ++ rest → IsFront result x rest
front_only {A = A} field is octets result e x rest fits same =
    front_is x rest result (subst (λ (r : Reading A). ReadsFront result r) (ap (λ (o : List ℕ). field.read o) same ∙ is.again x rest fits) e)
