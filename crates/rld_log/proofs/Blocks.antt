-- What has the shape of a frame at the front of octets is one thing.
use Rattle.std.proofs.Common.{◌≡◌, ℕ, ◌+◌, ◌<◌, ◌≤◌, List, [], ◌++◌, length, get_or, take, drop, refl, sym, ◌∙◌, ap, subst, arith, append_assoc, length-append, length-take, take-append-drop, inl, inr}
use Rattle.std.specs.Int.{w32, to_be_bytes, from_be_bytes}
use Rattle.std.proofs.lemmas.Bool.{cases_lt}
use Rattle.std.proofs.lemmas.List.{append-nil, take_at, drop_at, length-take-le, get_or-take, get_or_past, take-take}
use Rattle.std.proofs.lemmas.Nat.{be_bytes_4, from_be_bytes-to_be_bytes_4}
use Rattle.md5.specs.Md5.{md5, digest_bytes}
use Rattle.rld_log.specs.Frames.{block, digest, Fits, HasFrame, IsBlock, NoBlock, NoFrame, first, behind}
use Rattle.rld_log.specs.Log.{Shortens}

pub length-digest : (payload : List ℕ) → length (digest payload) ≡ 16
unfolding digest md5 digest_bytes
length-digest payload = refl

-- a frame has the shape of one
pub frame_shape : (payload : List ℕ) → Fits payload → IsBlock (digest payload) payload
frame_shape payload fits = record { digest = length-digest payload; fits = fits }

abbrev pub IsBytes : List ℕ → Type 0
IsBytes octets = (i : ℕ) → get_or octets i 0 < 256

IsBytes-take : (n : ℕ) (octets : List ℕ) → IsBytes octets → IsBytes (take n octets)
IsBytes-take n octets h i =
    elim (cases_lt i n) [
      | inl lt ↦ rw (get_or-take n octets i 0 lt) (h i)
      | inr le ↦ rw (get_or_past (take n octets) i 0 (omega (arith, length-take n octets))) (omega arith)
    ]

-- what was read is a block and the rest
pub made : (octets : List ℕ) (n : ℕ) → IsBytes octets → 4 ≤ length octets → n ≡ from_be_bytes w32 (take 4 octets) → n ≤ length (drop 16 (drop 4 octets))
    → octets ≡ block (take 16 (drop 4 octets)) (take n (drop 16 (drop 4 octets))) ++ drop n (drop 16 (drop 4 octets))
unfolding block
made octets n bytes four is room =
    let sum : List ℕ = take 16 (drop 4 octets) in
    let body : List ℕ = drop 16 (drop 4 octets) in
    let payload : List ℕ = take n body in
    let rest : List ℕ = drop n body in
    let len : length payload ≡ n = length-take-le n body room in
    let head : to_be_bytes w32 (length payload) ≡ take 4 octets =
    ap (λ (k : ℕ). to_be_bytes w32 k) len ∙ be_bytes_4 (take 4 octets) n (length-take-le 4 octets four) (IsBytes-take 4 octets bytes) is in
    let one : payload ++ rest ≡ body = take-append-drop n body in
    let two : sum ++ (payload ++ rest) ≡ drop 4 octets = ap (λ (x : List ℕ). sum ++ x) one ∙ take-append-drop 16 (drop 4 octets) in
    let three : to_be_bytes w32 (length payload) ++ (sum ++ (payload ++ rest)) ≡ octets =
    ap (λ (x : List ℕ). to_be_bytes w32 (length payload) ++ x) two ∙ ap (λ (x : List ℕ). x ++ drop 4 octets) head ∙ take-append-drop 4 octets in
    let grouped : (to_be_bytes w32 (length payload) ++ (sum ++ payload)) ++ rest ≡ to_be_bytes w32 (length payload) ++ (sum ++ (payload ++ rest)) =
    append_assoc (to_be_bytes w32 (length payload)) (sum ++ payload) rest ∙ ap (λ (x : List ℕ). to_be_bytes w32 (length payload) ++ x) (append_assoc sum payload rest) in
    sym (grouped ∙ three)

-- the parts of a block that stands at the front
pub record Parts (octets sum payload rest : List ℕ) : Type 0 where
  pub number : from_be_bytes w32 (take 4 octets) ≡ length payload
  pub sum_is : take 16 (drop 4 octets) ≡ sum
  pub payload_is : take (length payload) (drop 16 (drop 4 octets)) ≡ payload
  pub rest_is : drop (length payload) (drop 16 (drop 4 octets)) ≡ rest
  pub size : length octets ≡ 20 + length payload + length rest

pub parts_of : (octets sum payload rest : List ℕ) → IsBlock sum payload → octets ≡ block sum payload ++ rest → Parts octets sum payload rest
unfolding block
parts_of octets sum payload rest shape is =
    let head : List ℕ = to_be_bytes w32 (length payload) in
    let tail : List ℕ = payload ++ rest in
    let sixteen : length sum ≡ 16 = shape.digest in
    let grouped : octets ≡ head ++ (sum ++ tail) =
    is ∙ append_assoc head (sum ++ payload) rest ∙ ap (λ (x : List ℕ). head ++ x) (append_assoc sum payload rest) in
    let front : take 4 octets ≡ head = ap (λ (x : List ℕ). take 4 x) grouped ∙ take_at head (sum ++ tail) 4 refl in
    let second : drop 4 octets ≡ sum ++ tail = ap (λ (x : List ℕ). drop 4 x) grouped ∙ drop_at head (sum ++ tail) 4 refl in
    let third : drop 16 (drop 4 octets) ≡ tail = ap (λ (x : List ℕ). drop 16 x) second ∙ drop_at sum tail 16 sixteen in
    let four : length head ≡ 4 = refl in
    record {
      number = ap (λ (x : List ℕ). from_be_bytes w32 x) front ∙ from_be_bytes-to_be_bytes_4 (length payload) shape.fits;
      sum_is = ap (λ (x : List ℕ). take 16 x) second ∙ take_at sum tail 16 sixteen;
      payload_is = ap (λ (x : List ℕ). take (length payload) x) third ∙ take_at payload rest (length payload) refl;
      rest_is = ap (λ (x : List ℕ). drop (length payload) x) third ∙ drop_at payload rest (length payload) refl;
      size = omega (arith, ap length grouped, four, length-append head (sum ++ tail), length-append sum tail, length-append payload rest, sixteen);
    }

-- two blocks at one front are one
pub record AreSame (s p x t q y : List ℕ) : Type 0 where
  pub sums : s ≡ t
  pub payloads : p ≡ q
  pub rests : x ≡ y

pub one_block : (octets s p x t q y : List ℕ) → IsBlock s p → IsBlock t q → octets ≡ block s p ++ x → octets ≡ block t q ++ y → AreSame s p x t q y
one_block octets s p x t q y some other is also =
    let a = parts_of octets s p x some is in
    let b = parts_of octets t q y other also in
    let n : length p ≡ length q = sym a.number ∙ b.number in
    record {
      sums = sym a.sum_is ∙ b.sum_is;
      payloads = sym a.payload_is ∙ ap (λ (k : ℕ). take k (drop 16 (drop 4 octets))) n ∙ b.payload_is;
      rests = sym a.rest_is ∙ ap (λ (k : ℕ). drop k (drop 16 (drop 4 octets))) n ∙ b.rest_is;
    }

-- why octets have no block at their front
pub too_short : (octets : List ℕ) → length octets < 20 → NoBlock octets
too_short octets short sum payload rest shape is = absurd (omega (arith, (parts_of octets sum payload rest shape is).size))

pub too_long : (octets : List ℕ) (n : ℕ) → n ≡ from_be_bytes w32 (take 4 octets) → length octets < 20 + n → NoBlock octets
too_long octets n is short sum payload rest shape whole =
    let parts = parts_of octets sum payload rest shape whole in absurd (omega (arith, parts.size, parts.number))

-- a block that is cut short is none
pub shortened : (sum payload tail : List ℕ) → IsBlock sum payload → Shortens (block sum payload) tail → NoBlock tail
shortened sum payload tail shape cut other_sum other rest other_shape is =
    let octets : List ℕ = block sum payload in
    let whole = parts_of octets sum payload [] shape (sym (append-nil octets)) in
    let parts = parts_of tail other_sum other rest other_shape is in
    let len : length tail ≡ cut.count = ap length cut.is ∙ length-take-le cut.count octets (omega (arith, cut.few)) in
    let same : take 4 tail ≡ take 4 octets = ap (λ (x : List ℕ). take 4 x) cut.is ∙ take-take 4 cut.count octets (omega (arith, parts.size, len)) in
    let number : length other ≡ length payload = sym parts.number ∙ ap (λ (x : List ℕ). from_be_bytes w32 x) same ∙ whole.number in
    absurd (omega (arith, parts.size, whole.size, number, len, cut.few))

-- without a block there is no frame
pub no_block_no_frame : (octets : List ℕ) → NoBlock octets → NoFrame octets
no_block_no_frame octets none payload rest fits is = none (digest payload) payload rest (frame_shape payload fits) is

pub no_block_has_none : (octets : List ℕ) → NoBlock octets → HasFrame octets → ⊥
no_block_has_none octets none (first _ payload rest fits is) = none (digest payload) payload rest (frame_shape payload fits) is
no_block_has_none octets none (behind _ sum payload rest shape is later) = none sum payload rest shape is

-- a block of another digest is no frame
pub other_digest : (octets sum payload rest : List ℕ) → IsBlock sum payload → octets ≡ block sum payload ++ rest → (sum ≡ digest payload → ⊥) → NoFrame octets
other_digest octets sum payload rest shape is differs other after fits whole =
    let same = one_block octets sum payload rest (digest other) other after shape (frame_shape other fits) is whole in
    differs (same.sums ∙ ap digest (sym same.payloads))

-- behind it the frames are those of the whole
pub behind_it : (octets sum payload rest : List ℕ) → IsBlock sum payload → octets ≡ block sum payload ++ rest → (sum ≡ digest payload → ⊥) → HasFrame octets → HasFrame rest
behind_it octets sum payload rest shape is differs (first _ other after fits whole) = absurd (other_digest octets sum payload rest shape is differs other after fits whole)
behind_it octets sum payload rest shape is differs (behind _ t q after other whole later) =
    subst (λ (x : List ℕ). HasFrame x) (sym (one_block octets sum payload rest t q after shape other is whole).rests) later

pub is_frame : (octets sum payload rest : List ℕ) → IsBlock sum payload → octets ≡ block sum payload ++ rest → sum ≡ digest payload → HasFrame octets
is_frame octets sum payload rest shape is same = first octets payload rest shape.fits (is ∙ ap (λ (s : List ℕ). block s payload ++ rest) same)
