-- Numbers are read as they are spelled: each has one form.
use Rattle.std.proofs.Common.{◌≡◌, inl, inr, ℕ, ◌^◌, ◌<◌, ◌≤◌, false, cond, ltb, leb, eqb, List, [], ◌∷◌, ◌++◌, length, take, drop, Ok, Err, refl, sym, ap, subst, ◌∙◌, arith}
use Rattle.std.specs.Int.{Width, w16, w32, w64, byte_len, from_be_bytes, to_be_bytes}
use Rattle.std.proofs.lemmas.Bool.{cases_lt, ltb-true, ltb-false, lt-ltb, le-ltb, leb-true, le-leb, and_parts, eqb-true, eqb-false, eq-eqb, ne_eqb}
use Rattle.std.proofs.lemmas.List.{take_at, drop_at, take-append-drop, length-append, length-take, length-take-le, get_or-take, get_or_past}
use Rattle.std.proofs.lemmas.Nat.{be_bytes_2, be_bytes_4, be_bytes_8, from_be_bytes-to_be_bytes_2, from_be_bytes-to_be_bytes_4, from_be_bytes-to_be_bytes_8}
use Rattle.rld_spelling.specs.declared.fault.Cause.{Cause}
use Rattle.rld_spelling.specs.declared.fault.Cause.TheVariants.{CutShort, LongNumber}
use Rattle.rld_spelling.specs.Field.{Reading, IsRead, AreOctets, fault_at, passing}
use Rattle.rld_spelling.specs.Numbers.{wide_at, pair, number, number_at, number_octets, at_least, below, below_at, within, is_between, between, between_at, exactly, exactly_at, exact}
use Rattle.rld_spelling.proofs.Smallest.{ok_is, then_ok, chosen, passed, octets_rest}

octets_in_front : (n : ℕ) (octets : List ℕ) → AreOctets octets → AreOctets (take n octets)
octets_in_front n octets h i =
    elim (cases_lt i n) [
      | inl lt ↦ rw (get_or-take n octets i 0 lt) (h i)
      | inr le ↦ rw (get_or_past (take n octets) i 0 (omega (arith, length-take n octets))) (omega arith)
    ]

pub record IsWide (w : Width) (limit : ℕ) : Type 0 where
  pub len : (n : ℕ) → length (to_be_bytes w n) ≡ byte_len w
  pub back : (octets : List ℕ) → length octets ≡ byte_len w → AreOctets octets → to_be_bytes w (from_be_bytes w octets) ≡ octets
  pub again : (n : ℕ) → n < limit → from_be_bytes w (to_be_bytes w n) ≡ n
  pub below : (octets : List ℕ) → AreOctets octets → from_be_bytes w octets < limit

wide_2 : IsWide w16 (2 ^ 16)
wide_2 = record {
  len = λ n. refl;
  back = λ o len are. be_bytes_2 o _ len are refl;
  again = λ n lt. from_be_bytes-to_be_bytes_2 n lt;
  below = λ o are. omega (arith, are 0, are 1);
}

wide_4 : IsWide w32 (2 ^ 32)
wide_4 = record {
  len = λ n. refl;
  back = λ o len are. be_bytes_4 o _ len are refl;
  again = λ n lt. from_be_bytes-to_be_bytes_4 n lt;
  below = λ o are. omega (arith, are 0, are 1, are 2, are 3);
}

wide_8 : IsWide w64 (2 ^ 64)
wide_8 = record {
  len = λ n. refl;
  back = λ o len are. be_bytes_8 o _ len are refl;
  again = λ n lt. from_be_bytes-to_be_bytes_8 n lt;
  below = λ o are. omega (arith, are 0, are 1, are 2, are 3, are 4, are 5, are 6, are 7);
}

wide_spelled : (w : Width) (limit : ℕ) → IsWide w limit → (octets : List ℕ) (x : ℕ) (rest : List ℕ) → AreOctets octets → wide_at w octets ≡ Ok (x, rest)
    → (octets ≡ to_be_bytes w x ++ rest) × (x < limit)
unfolding wide_at
wide_spelled w limit is octets x rest are e =
    let n : ℕ = byte_len w in
    let one : Reading ℕ = Ok (from_be_bytes w (take n octets), drop n octets) in
    let p = passed (ltb (length octets) n) (record { cause = CutShort; left = length octets }) one (x, rest) e in
    let long : n ≤ length octets = ltb-false (length octets) n p.0 in
    let front = octets_in_front n octets are in
    let whole : octets ≡ to_be_bytes w (from_be_bytes w (take n octets)) ++ drop n octets =
    sym (ap (λ (l : List ℕ). l ++ drop n octets) (is.back (take n octets) (length-take-le n octets long) front) ∙ take-append-drop n octets) in
    subst (λ (y : ℕ × List ℕ). (octets ≡ to_be_bytes w y.0 ++ y.1) × (y.0 < limit)) (ok_is (from_be_bytes w (take n octets), drop n octets) (x, rest) p.1) (whole, is.below (take n octets) front)

wide_again : (w : Width) (limit : ℕ) → IsWide w limit → (x : ℕ) (rest : List ℕ) → x < limit → wide_at w (to_be_bytes w x ++ rest) ≡ Ok (x, rest)
unfolding wide_at
wide_again w limit is x rest fits =
    let long : ltb (length (to_be_bytes w x ++ rest)) (byte_len w) ≡ false = le-ltb _ _ (omega (arith, length-append (to_be_bytes w x) rest, is.len x)) in
    let first : take (byte_len w) (to_be_bytes w x ++ rest) ≡ to_be_bytes w x = take_at (to_be_bytes w x) rest (byte_len w) (is.len x) in
    let second : drop (byte_len w) (to_be_bytes w x ++ rest) ≡ rest = drop_at (to_be_bytes w x) rest (byte_len w) (is.len x) in
    rw (long, first, second, is.again x fits) refl

pub pair_read : IsRead pair
pair_read = record { spelled = wide_spelled w16 (2 ^ 16) wide_2; again = wide_again w16 (2 ^ 16) wide_2 }

-- ---- a number in its one form

small_octets : (n : ℕ) → n < 253 → number_octets n ≡ n ∷ []
unfolding number_octets
small_octets n lt = rw (lt-ltb n 253 lt) refl

octets_2 : (n : ℕ) → 253 ≤ n → n < 2 ^ 16 → number_octets n ≡ 253 ∷ to_be_bytes w16 n
unfolding number_octets
octets_2 n le lt = rw (le-ltb n 253 le, lt-ltb n (2 ^ 16) lt) refl

octets_4 : (n : ℕ) → 2 ^ 16 ≤ n → n < 2 ^ 32 → number_octets n ≡ 254 ∷ to_be_bytes w32 n
unfolding number_octets
octets_4 n le lt = rw (le-ltb n 253 (omega arith), le-ltb n (2 ^ 16) le, lt-ltb n (2 ^ 32) lt) refl

octets_8 : (n : ℕ) → 2 ^ 32 ≤ n → number_octets n ≡ 255 ∷ to_be_bytes w64 n
unfolding number_octets
octets_8 n le = rw (le-ltb n 253 (omega arith), le-ltb n (2 ^ 16) (omega arith), le-ltb n (2 ^ 32) le) refl

at_least_ok : (least mark : ℕ) (behind : List ℕ) (r : Reading ℕ) (y : ℕ × List ℕ) → at_least least mark behind r ≡ Ok y → (r ≡ Ok y) × (least ≤ y.0)
at_least_ok least mark behind (Ok x) y e =
    let one : Reading ℕ = Ok x in
    let p = passed (ltb x.0 least) (record { cause = LongNumber; left = length (mark ∷ behind) }) one y e in
    let same : x ≡ y = ok_is x y p.1 in
    (p.1, subst (λ (z : ℕ × List ℕ). least ≤ z.0) same (ltb-false x.0 least p.0))
at_least_ok least mark behind (Err fault) y e = absurd cc

at_least_again : (least mark : ℕ) (behind : List ℕ) (n : ℕ) (rest : List ℕ) (r : Reading ℕ) → r ≡ Ok (n, rest) → least ≤ n → at_least least mark behind r ≡ Ok (n, rest)
at_least_again least mark behind n rest r e le = rw (e, le-ltb n least le) refl

abbrev Spells : List ℕ → ℕ → List ℕ → Type 0
Spells octets x rest = (octets ≡ number_octets x ++ rest) × (x < 2 ^ 64)

number_spelled : (octets : List ℕ) (x : ℕ) (rest : List ℕ) → AreOctets octets → number_at octets ≡ Ok (x, rest) → Spells octets x rest
unfolding number_at
number_spelled [] x rest are e = absurd cc
number_spelled (mark ∷ behind) x rest are e =
    let small : Reading ℕ = Ok (mark, behind) in
    let r8 : Reading ℕ = cond (eqb mark 255) (at_least (2 ^ 32) mark behind (wide_at w64 behind)) small in
    let r4 : Reading ℕ = cond (eqb mark 254) (at_least (2 ^ 16) mark behind (wide_at w32 behind)) r8 in
    let inner = octets_rest mark behind are in
    elim (chosen (eqb mark 253) (at_least 253 mark behind (wide_at w16 behind)) r4 (Ok (x, rest)) e) [
      | inl p ↦
          let a = at_least_ok 253 mark behind (wide_at w16 behind) (x, rest) p.1 in
          let s = wide_spelled w16 (2 ^ 16) wide_2 behind x rest inner a.0 in
          let m : mark ≡ 253 = eqb-true mark 253 p.0 in
          (ap (λ (l : List ℕ). mark ∷ l) s.0 ∙ ap (λ (k : ℕ). k ∷ (to_be_bytes w16 x ++ rest)) m ∙ ap (λ (l : List ℕ). l ++ rest) (sym (octets_2 x a.1 s.1)), omega (arith, s.1))
      | inr p ↦ elim (chosen (eqb mark 254) (at_least (2 ^ 16) mark behind (wide_at w32 behind)) r8 (Ok (x, rest)) p.1) [
        | inl q ↦
            let a = at_least_ok (2 ^ 16) mark behind (wide_at w32 behind) (x, rest) q.1 in
            let s = wide_spelled w32 (2 ^ 32) wide_4 behind x rest inner a.0 in
            let m : mark ≡ 254 = eqb-true mark 254 q.0 in
            (ap (λ (l : List ℕ). mark ∷ l) s.0 ∙ ap (λ (k : ℕ). k ∷ (to_be_bytes w32 x ++ rest)) m ∙ ap (λ (l : List ℕ). l ++ rest) (sym (octets_4 x a.1 s.1)), omega (arith, s.1))
        | inr q ↦ elim (chosen (eqb mark 255) (at_least (2 ^ 32) mark behind (wide_at w64 behind)) small (Ok (x, rest)) q.1) [
          | inl z ↦
              let a = at_least_ok (2 ^ 32) mark behind (wide_at w64 behind) (x, rest) z.1 in
              let s = wide_spelled w64 (2 ^ 64) wide_8 behind x rest inner a.0 in
              let m : mark ≡ 255 = eqb-true mark 255 z.0 in
              (ap (λ (l : List ℕ). mark ∷ l) s.0 ∙ ap (λ (k : ℕ). k ∷ (to_be_bytes w64 x ++ rest)) m ∙ ap (λ (l : List ℕ). l ++ rest) (sym (octets_8 x a.1)), s.1)
          | inr z ↦
              let first : mark < 256 = are 0 in
              let n2 = eqb-false mark 253 p.0 in
              let n4 = eqb-false mark 254 q.0 in
              let n8 = eqb-false mark 255 z.0 in
              let lt : mark < 253 = omega arith in
              subst (λ (y : ℕ × List ℕ). Spells (mark ∷ behind) y.0 y.1) (ok_is (mark, behind) (x, rest) z.1) (ap (λ (l : List ℕ). l ++ behind) (sym (small_octets mark lt)), omega arith)
        ]
      ]
    ]

number_again : (x : ℕ) (rest : List ℕ) → x < 2 ^ 64 → number_at (number_octets x ++ rest) ≡ Ok (x, rest)
unfolding number_at
number_again x rest fits =
    elim (cases_lt x 253) [
      | inl lt ↦ ap (λ (l : List ℕ). number_at (l ++ rest)) (small_octets x lt)
          ∙ rw (ne_eqb x 253 (λ e. omega arith), ne_eqb x 254 (λ e. omega arith), ne_eqb x 255 (λ e. omega arith)) refl
      | inr le ↦ elim (cases_lt x (2 ^ 16)) [
        | inl lt ↦ ap (λ (l : List ℕ). number_at (l ++ rest)) (octets_2 x le lt)
            ∙ at_least_again 253 253 (to_be_bytes w16 x ++ rest) x rest (wide_at w16 (to_be_bytes w16 x ++ rest)) (wide_again w16 (2 ^ 16) wide_2 x rest lt) le
        | inr le2 ↦ elim (cases_lt x (2 ^ 32)) [
          | inl lt ↦ ap (λ (l : List ℕ). number_at (l ++ rest)) (octets_4 x le2 lt)
              ∙ at_least_again (2 ^ 16) 254 (to_be_bytes w32 x ++ rest) x rest (wide_at w32 (to_be_bytes w32 x ++ rest)) (wide_again w32 (2 ^ 32) wide_4 x rest lt) le2
          | inr le4 ↦ ap (λ (l : List ℕ). number_at (l ++ rest)) (octets_8 x le4)
              ∙ at_least_again (2 ^ 32) 255 (to_be_bytes w64 x ++ rest) x rest (wide_at w64 (to_be_bytes w64 x ++ rest)) (wide_again w64 (2 ^ 64) wide_8 x rest fits) le4
        ]
      ]
    ]

pub number_read : IsRead number
number_read = record { spelled = number_spelled; again = number_again }

-- ---- a number below a limit

below_spelled : (cause : Cause) (limit : ℕ) (octets : List ℕ) (x : ℕ) (rest : List ℕ) → AreOctets octets → below_at cause limit octets ≡ Ok (x, rest)
    → (octets ≡ number_octets x ++ rest) × (x < limit)
unfolding below_at
below_spelled cause limit octets x rest are e =
    let p = then_ok (number_at octets) (within cause limit octets) (x, rest) e in
    let one : Reading ℕ = Ok p.0 in
    let s = number_spelled octets p.0.0 p.0.1 are p.1 in
    elim (chosen (ltb p.0.0 limit) one (fault_at cause octets) (Ok (x, rest)) p.2) [
      | inl q ↦ subst (λ (y : ℕ × List ℕ). (octets ≡ number_octets y.0 ++ y.1) × (y.0 < limit)) (ok_is p.0 (x, rest) q.1) (s.0, ltb-true p.0.0 limit q.0)
      | inr q ↦ absurd cc
    ]

below_again : (cause : Cause) (limit : ℕ) → limit ≤ 2 ^ 64 → (x : ℕ) (rest : List ℕ) → x < limit → below_at cause limit (number_octets x ++ rest) ≡ Ok (x, rest)
unfolding below_at
below_again cause limit most x rest fits = rw (number_again x rest (omega arith), lt-ltb x limit fits) refl

pub below_read : (cause : Cause) (limit : ℕ) → limit ≤ 2 ^ 64 → IsRead (below cause limit)
below_read cause limit most = record { spelled = below_spelled cause limit; again = below_again cause limit most }

-- ---- a number from the least to the most

between_spelled : (cause : Cause) (least most : ℕ) (octets : List ℕ) (x : ℕ) (rest : List ℕ) → AreOctets octets → between_at cause least most octets ≡ Ok (x, rest)
    → (octets ≡ number_octets x ++ rest) × ((least ≤ x) × (x ≤ most))
unfolding between_at
between_spelled cause least most octets x rest are e =
    let p = then_ok (number_at octets) (passing cause (is_between least most) octets) (x, rest) e in
    let one : Reading ℕ = Ok p.0 in
    let s = number_spelled octets p.0.0 p.0.1 are p.1 in
    elim (chosen (is_between least most p.0.0) one (fault_at cause octets) (Ok (x, rest)) p.2) [
      | inl q ↦
          let sides = and_parts (leb least p.0.0) (leb p.0.0 most) q.0 in
          subst (λ (y : ℕ × List ℕ). (octets ≡ number_octets y.0 ++ y.1) × ((least ≤ y.0) × (y.0 ≤ most))) (ok_is p.0 (x, rest) q.1) (s.0, (leb-true least p.0.0 sides.0, leb-true p.0.0 most sides.1))
      | inr q ↦ absurd cc
    ]

between_again : (cause : Cause) (least most : ℕ) → most < 2 ^ 64 → (x : ℕ) (rest : List ℕ) → (least ≤ x) × (x ≤ most) → between_at cause least most (number_octets x ++ rest) ≡ Ok (x, rest)
unfolding between_at
between_again cause least most few x rest fits = rw (number_again x rest (omega (arith, fits.1)), le-leb least x fits.0, le-leb x most fits.1) refl

pub between_read : (cause : Cause) (least most : ℕ) → most < 2 ^ 64 → IsRead (between cause least most)
between_read cause least most few = record { spelled = between_spelled cause least most; again = between_again cause least most few }

-- ---- a number that is always the same

exactly_spelled : (cause : Cause) (value : ℕ) (octets : List ℕ) (x : Unit {0}) (rest : List ℕ) → AreOctets octets → exactly_at cause value octets ≡ Ok (x, rest)
    → (octets ≡ number_octets value ++ rest) × Unit {0}
unfolding exactly_at
exactly_spelled cause value octets x rest are e =
    let p = then_ok (number_at octets) (exact cause value octets) (x, rest) e in
    let one : Reading (Unit {0}) = Ok (tt, p.0.1) in
    let s = number_spelled octets p.0.0 p.0.1 are p.1 in
    elim (chosen (eqb p.0.0 value) one (fault_at cause octets) (Ok (x, rest)) p.2) [
      | inl q ↦
          let left_is : p.0.1 ≡ rest = ap (λ (y : Unit {0} × List ℕ). y.1) (ok_is (tt, p.0.1) (x, rest) q.1) in
          (s.0 ∙ ap (λ (n : ℕ). number_octets n ++ p.0.1) (eqb-true p.0.0 value q.0) ∙ ap (λ (l : List ℕ). number_octets value ++ l) left_is, tt)
      | inr q ↦ absurd cc
    ]

exactly_again : (cause : Cause) (value : ℕ) → value < 2 ^ 64 → (x : Unit {0}) (rest : List ℕ) → Unit {0} → exactly_at cause value (number_octets value ++ rest) ≡ Ok (x, rest)
unfolding exactly_at
exactly_again cause value lt x rest fits = rw (number_again value rest lt, eq-eqb value value refl) refl

pub exactly_read : (cause : Cause) (value : ℕ) → value < 2 ^ 64 → IsRead (exactly cause value)
exactly_read cause value lt = record { spelled = exactly_spelled cause value; again = exactly_again cause value lt }
