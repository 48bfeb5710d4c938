-- The function that reads a datagram's fields computes what the grammar says.
use Rattle.std.proofs.Common.{◌≡◌, ℕ, zero, suc, ◌+◌, ◌<◌, ◌≤◌, false, ltb, List, [], ◌∷◌, ◌++◌, length, get_or, take, drop, Ok, Err, refl, sym, ap, subst, ◌∙◌, append_assoc, arith, inl, inr, ◌⊎◌}
use Rattle.std.specs.Int.{w16, to_be_bytes}
use Rattle.std.proofs.lemmas.Bool.{cases_lt, le-ltb}
use Rattle.std.proofs.lemmas.Bool.Decides.{nat_tests}
use Rattle.std.proofs.lemmas.List.{take_at, drop_at, take-append-drop, length-append, length-take, length-drop, take-take}
use Rattle.std.proofs.lemmas.Nat.{be_bytes_2, from_be_bytes-to_be_bytes_2}
use Rattle.rsl_wire.specs.declared.packet.WireFault.TheVariants.{Short, BadLength}
use Rattle.rsl_wire.specs.Packet.{Fields, IsPacket, IsDatagram, packet_octets, packet_of, length_field}

-- what a datagram is: octets
abbrev pub IsBytes : List ℕ → Type 0
IsBytes bytes = (i : ℕ) → get_or bytes i 0 < 256

-- the fields that are read where the Length is n
abbrev pub fields_at : List ℕ → ℕ → Fields
fields_at d n = record { code = get_or d 0 0; id = get_or d 1 0; authenticator = take 16 (drop 4 d); attributes = drop 20 (take n d) }

-- what `packet_of` answers in its cases
pub packet_of-short : (d : List ℕ) → length d < 20 → packet_of d ≡ Err Short
unfolding packet_of
packet_of-short d h = grind (arith, nat_tests)

pub packet_of-reads : (d : List ℕ) (n : ℕ) → n ≡ length_field d → 20 ≤ length d → 20 ≤ n → n ≤ 4096 → n ≤ length d → packet_of d ≡ Ok (fields_at d n)
unfolding packet_of
packet_of-reads d n e h long small within =
    let e1 : ltb (length d) 20 ≡ false = le-ltb _ _ h in
    let e2 : ltb n 20 ≡ false = le-ltb _ _ long in
    let e3 : ltb 4096 n ≡ false = le-ltb _ _ small in
    let e4 : ltb (length d) n ≡ false = le-ltb _ _ within in
    rw (e1, ← e, e2, e3, e4) refl

pub packet_of-bad : (d : List ℕ) → 20 ≤ length d → (length_field d < 20) ⊎ ((4096 < length_field d) ⊎ (length d < length_field d)) → packet_of d ≡ Err BadLength
unfolding packet_of
packet_of-bad d h (inl k) = grind (arith, nat_tests)
packet_of-bad d h (inr (inl k)) = grind (arith, nat_tests)
packet_of-bad d h (inr (inr k)) = grind (arith, nat_tests)

-- the octets of the packet are its first Length octets
header_is : (d : List ℕ) (n : ℕ) → IsBytes d → 4 ≤ length d → n ≡ length_field d → take 20 d ≡ get_or d 0 0 ∷ get_or d 1 0 ∷ to_be_bytes w16 n ++ take 16 (drop 4 d)
header_is [] n fits h e = absurd (omega arith)
header_is (a ∷ []) n fits h e = absurd (omega arith)
header_is (a ∷ b ∷ []) n fits h e = absurd (omega arith)
header_is (a ∷ b ∷ c ∷ []) n fits h e = absurd (omega arith)
header_is (a ∷ b ∷ c ∷ f ∷ rest) n fits h e =
    let two : to_be_bytes w16 n ≡ c ∷ f ∷ [] = be_bytes_2 (c ∷ f ∷ []) n refl (both c f (fits 2) (fits 3)) e in
    ap (λ (x : List ℕ). a ∷ b ∷ x ++ take 16 rest) (sym two)
  where
    both : (c f : ℕ) → c < 256 → f < 256 → IsBytes (c ∷ f ∷ [])
    both c f p q zero = p
    both c f p q (suc zero) = q
    both c f p q (suc (suc i)) = omega arith

pub octets_are : (d : List ℕ) (n : ℕ) → IsBytes d → n ≡ length_field d → 20 ≤ n → n ≤ length d → take n d ≡ packet_octets (fields_at d n)
octets_are d n fits e long within =
    let len : 20 + length (drop 20 (take n d)) ≡ n = omega (arith, length-drop 20 (take n d), length-take n d) in
    let front : take 20 (take n d) ≡ take 20 d = take-take 20 n d long in
    let header = header_is d n fits (omega arith) e in
    let whole : take n d ≡ (get_or d 0 0 ∷ get_or d 1 0 ∷ to_be_bytes w16 n ++ take 16 (drop 4 d)) ++ drop 20 (take n d) = sym (take-append-drop 20 (take n d)) ∙ ap (λ (x : List ℕ). x ++ drop 20 (take n d)) (front ∙ header) in
    whole ∙ ap (λ (k : ℕ). (get_or d 0 0 ∷ get_or d 1 0 ∷ to_be_bytes w16 k ++ take 16 (drop 4 d)) ++ drop 20 (take n d)) (sym len)

-- a datagram in which the Length is right is a packet with those fields, and padding
pub IsDatagram-at : (d : List ℕ) (n : ℕ) → IsBytes d → n ≡ length_field d → 20 ≤ n → n ≤ 4096 → n ≤ length d → IsDatagram d (fields_at d n) (drop n d)
IsDatagram-at d n fits e long small within = record {
  packet = record {
    code = fits 0;
    id = fits 1;
    authenticator = omega (arith, length-take 16 (drop 4 d), length-drop 4 d);
    whole = omega (arith, length-drop 20 (take n d), length-take n d);
  };
  octets = sym (take-append-drop n d) ∙ ap (λ (x : List ℕ). x ++ drop n d) (octets_are d n fits e long within);
}

-- a packet's octets are as many as its Length says
pub length-packet_octets : (fields : Fields) → IsPacket fields → length (packet_octets fields) ≡ 20 + length fields.attributes
length-packet_octets fields is = omega (arith, length-append fields.authenticator fields.attributes, is.authenticator)

-- a packet's octets, followed by any padding, are read as its fields
pub packet_of-octets : (fields : Fields) (padding : List ℕ) → IsPacket fields → packet_of (packet_octets fields ++ padding) ≡ Ok fields
packet_of-octets fields padding is =
    let n = 20 + length fields.attributes in
    let p = packet_octets fields in
    let d = p ++ padding in
    let len : length p ≡ n = length-packet_octets fields is in
    let long : n ≤ length d = omega (arith, length-append p padding, len) in
    let e : n ≡ length_field d = sym (from_be_bytes-to_be_bytes_2 n (omega (arith, is.whole))) in
    let a : take 16 (fields.authenticator ++ fields.attributes ++ padding) ≡ fields.authenticator = ap (take 16) (append_assoc fields.authenticator fields.attributes padding) ∙ take_at fields.authenticator (fields.attributes ++ padding) 16 is.authenticator in
    let b : drop 20 (take n d) ≡ fields.attributes = ap (drop 20) (take_at p padding n len) ∙ drop_at fields.authenticator fields.attributes 16 is.authenticator in
    packet_of-reads d n e (omega arith) (omega arith) (omega (arith, is.whole)) long ∙ rw (a, b) refl

-- the test that decided, and what was answered
Verdict : List ℕ → Type 0
Verdict d = ((length d < 20) × (packet_of d ≡ Err Short)) ⊎ (((20 ≤ length d) × (packet_of d ≡ Err BadLength)) ⊎ ((20 ≤ length_field d) × ((length_field d ≤ 4096) × (length_field d ≤ length d))))

verdict : (d : List ℕ) → Verdict d
unfolding Verdict
verdict d = elim (cases_lt (length d) 20) [
  | inl short ↦ inl (short, packet_of-short d short)
  | inr long ↦ elim (cases_lt (length_field d) 20) [
    | inl low ↦ inr (inl (long, packet_of-bad d long (inl low)))
    | inr high ↦ elim (cases_lt 4096 (length_field d)) [
      | inl over ↦ inr (inl (long, packet_of-bad d long (inr (inl over))))
      | inr small ↦ elim (cases_lt (length d) (length_field d)) [
        | inl past ↦ inr (inl (long, packet_of-bad d long (inr (inr past))))
        | inr within ↦ inr (inr (high, (small, within)))
      ]
    ]
  ]
]

-- what is read is in the grammar
pub packet_of-found : (d : List ℕ) (fields : Fields) → IsBytes d → packet_of d ≡ Ok fields → (padding : List ℕ) × IsDatagram d fields padding
unfolding Verdict
packet_of-found d fields fits e = elim (verdict d) [
  | inl short ↦ absurd (let h = short.1 in cc)
  | inr (inl bad) ↦ absurd (let h = bad.1 in cc)
  | inr (inr right) ↦
      let n = length_field d in
      let reads = packet_of-reads d n refl (omega arith) right.0 right.1.0 right.1.1 in
      let same : fields_at d n ≡ fields = cc in
      subst (λ (f : Fields). (padding : List ℕ) × IsDatagram d f padding) same (drop n d, IsDatagram-at d n fits refl right.0 right.1.0 right.1.1)
]

-- what is in the grammar is read
pub packet_of-only : (d : List ℕ) (fields : Fields) (padding : List ℕ) → IsDatagram d fields padding → packet_of d ≡ Ok fields
packet_of-only d fields padding is = ap packet_of is.octets ∙ packet_of-octets fields padding is.packet

-- when it is too short, and when its Length is wrong
pub packet_of-is_short : (d : List ℕ) → packet_of d ≡ Err Short → length d < 20
unfolding Verdict
packet_of-is_short d e = elim (verdict d) [
  | inl short ↦ short.0
  | inr (inl bad) ↦ absurd (let h = bad.1 in cc)
  | inr (inr right) ↦ absurd (let reads = packet_of-reads d (length_field d) refl (omega arith) right.0 right.1.0 right.1.1 in cc)
]

pub packet_of-is_bad : (d : List ℕ) → packet_of d ≡ Err BadLength → 20 ≤ length d
unfolding Verdict
packet_of-is_bad d e = elim (verdict d) [
  | inl short ↦ absurd (let h = short.1 in cc)
  | inr (inl bad) ↦ bad.0
  | inr (inr right) ↦ omega arith
]

pub packet_of-no_packet : (d : List ℕ) → IsBytes d → 20 ≤ length d → ((fields : Fields) (padding : List ℕ) → IsDatagram d fields padding → ⊥) → packet_of d ≡ Err BadLength
unfolding Verdict
packet_of-no_packet d fits long none = elim (verdict d) [
  | inl short ↦ absurd (omega (arith, short.0))
  | inr (inl bad) ↦ bad.1
  | inr (inr right) ↦ absurd (none (fields_at d (length_field d)) (drop (length_field d) d) (IsDatagram-at d (length_field d) fits refl right.0 right.1.0 right.1.1))
]

-- no other fields fit a datagram, and no other padding
pub one_reading : (datagram padding others : List ℕ) (fields other : Fields) → IsDatagram datagram fields padding → IsDatagram datagram other others → (fields ≡ other) × (padding ≡ others)
one_reading datagram padding others fields other is are =
    let a = packet_of-only datagram fields padding is in
    let b = packet_of-only datagram other others are in
    let same : fields ≡ other = cc in
    let n = length (packet_octets fields) in
    let p : drop n datagram ≡ padding = ap (drop n) is.octets ∙ drop_at (packet_octets fields) padding n refl in
    let q : drop n datagram ≡ others = ap (drop n) (are.octets ∙ ap (λ (f : Fields). packet_octets f ++ others) (sym same)) ∙ drop_at (packet_octets fields) others n refl in
    (same, sym p ∙ q)
