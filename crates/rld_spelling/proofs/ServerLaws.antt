-- Access servers and requests are read as they are spelled.
use Rattle.std.proofs.Common.{◌≡◌, inl, inr, ℕ, ◌^◌, ◌≤◌, cond, eqb, List, [], ◌∷◌, ◌++◌, Ok, refl, ap}
use Rattle.rld_spelling.specs.declared.fault.Cause.TheVariants.{NoClient, UnknownTag}
use Rattle.rld_spelling.specs.Field.{Reading, IsRead, AreOctets, fault_at, made_of, short, short_at, nothing}
use Rattle.rld_spelling.proofs.Callers.{tag_case, case_spelled, short_read, nothing_read, below_read, pair_read, octet_read, fixed_read, both_read, seen_as_read}
use Rattle.rsl_event.specs.declared.nas.NasName.{NasName}
use Rattle.rsl_event.specs.declared.nas.NasName.TheVariants.{Identifier, Address, Unnamed}
use Rattle.rld_spelling.specs.Servers.{NameFits, name_at, name_octets, name_field, nas_of, nas_parts, nas_as, nas_at, nas_octets, nas_field}
use Rattle.rld_spelling.specs.Requests.{key_of, key_parts, key_as, key_at, key_octets, key_field}

abbrev identifier : List ℕ → NasName
identifier name = Identifier name

abbrev address : List ℕ → NasName
address octets = Address octets

name_spelled : (octets : List ℕ) (x : NasName) (rest : List ℕ) → AreOctets octets → name_at octets ≡ Ok (x, rest) → (octets ≡ name_octets x ++ rest) × NameFits x
unfolding name_at name_octets
name_spelled [] x rest are e = absurd cc
name_spelled (tag ∷ octets) x rest are e =
    let a : Reading NasName = made_of identifier (short_at octets) in
    let b : Reading NasName = made_of address (short_at octets) in
    let none : Reading NasName = Ok (Unnamed, octets) in
    let unknown : Reading NasName = fault_at UnknownTag (tag ∷ octets) in
    elim (tag_case tag 0 a (cond (eqb tag 1) b (cond (eqb tag 2) none unknown)) (Ok (x, rest)) e) [
      | inl p ↦ case_spelled name_field short short_read identifier 0 (λ n fits. refl) (λ n fits. fits) tag octets x rest p.0 are p.1
      | inr p ↦ elim (tag_case tag 1 b (cond (eqb tag 2) none unknown) (Ok (x, rest)) p) [
        | inl q ↦ case_spelled name_field short short_read address 1 (λ n fits. refl) (λ n fits. fits) tag octets x rest q.0 are q.1
        | inr q ↦ elim (tag_case tag 2 none unknown (Ok (x, rest)) q) [
          | inl s ↦ case_spelled name_field nothing nothing_read (λ u. Unnamed) 2 (λ u fits. refl) (λ u fits. tt) tag octets x rest s.0 are s.1
          | inr s ↦ absurd cc
        ]
      ]
    ]

name_again : (x : NasName) (rest : List ℕ) → NameFits x → name_at (name_octets x ++ rest) ≡ Ok (x, rest)
unfolding name_at name_octets
name_again (Identifier name) rest fits = ap (λ (r : Reading (List ℕ)). made_of identifier r) (short_read.again name rest fits)
name_again (Address octets) rest fits = ap (λ (r : Reading (List ℕ)). made_of address r) (short_read.again octets rest fits)
name_again Unnamed rest fits = refl

pub name_read : IsRead name_field
name_read = record { spelled = name_spelled; again = name_again }

pub nas_read : (clients : ℕ) → clients ≤ 2 ^ 64 → IsRead (nas_field clients)
unfolding nas_at nas_octets
nas_read clients few =
    let is : IsRead (nas_as clients) = seen_as_read nas_of nas_parts _ (λ x. refl) (λ y. refl) (both_read _ _ (below_read NoClient clients few) name_read) in
    record { spelled = is.spelled; again = is.again }

pub key_read : IsRead key_field
unfolding key_at key_octets
key_read =
    let is : IsRead key_as = seen_as_read key_of key_parts _ (λ x. refl) (λ y. refl) (both_read _ _ (fixed_read 4) (both_read _ _ pair_read (both_read _ _ octet_read (fixed_read 16)))) in
    record { spelled = is.spelled; again = is.again }
