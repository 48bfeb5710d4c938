-- Two frames at the front of octets.
use Rattle.std.proofs.Common.{◌≡◌, ℕ, ◌<◌, List, [], ◌∷◌, ◌++◌, Bor, append-nil, append_assoc, arith, length, drop, map, sym, ap, subst, ◌∙◌}
use Rattle.std.specs.List.{AllByRecursion}
use Rattle.rld_log.specs.Frames.{Fits, HasPayloads, NoFrame, digest, first, frame, frames}
use Rattle.rld_log.proofs.Callers.{Parts, frame_shape, parts_of}
use Rattle.rld_start.specs.Firsts.{HasTwo, IsBegun}
use Rattle.rld_store.specs.Opening.{AreParts}
use Rattle.rld_store.specs.declared.parts.Parts.{Parts as TwoAndRest}

-- behind one frame at the front stands one rest
pub same_rest : (octets p x q y : List ℕ) → Fits p → Fits q → octets ≡ frame p ++ x → octets ≡ frame q ++ y → x ≡ y
same_rest octets p x q y some other is also =
    let a : Parts octets (digest p) p x = parts_of octets (digest p) p x (frame_shape p some) is in
    let b : Parts octets (digest q) q y = parts_of octets (digest q) q y (frame_shape q other) also in
    let n : length p ≡ length q = sym a.number ∙ b.number in
    sym a.rest_is ∙ ap (λ (k : ℕ). drop k (drop 16 (drop 4 octets))) n ∙ b.rest_is

-- one frame at the front, and no second
pub no_two : (octets one rest : List ℕ) → Fits one → octets ≡ frame one ++ rest → NoFrame rest
    → (first second : List ℕ) → HasTwo octets first second → ⊥
no_two octets one rest fits is none header snapshot two =
    none snapshot two.rest two.second_fits
    (same_rest octets one rest header (frame snapshot ++ two.rest) fits two.first_fits is two.is)

-- fewer than two payloads are no two frames
pub few_are_no_two : (octets : List ℕ) (payloads : List (List ℕ)) → HasPayloads octets payloads → length payloads < 2
    → (header snapshot : List ℕ) → HasTwo octets header snapshot → ⊥
few_are_no_two octets [] has few header snapshot two =
    has.torn (first has.tail header (frame snapshot ++ two.rest) two.first_fits (sym has.parts ∙ two.is))
few_are_no_two octets (payload ∷ []) has few header snapshot two =
    no_two octets payload has.tail has.fit.0 (has.parts ∙ ap (λ (o : List ℕ). o ++ has.tail) (append-nil (frame payload)))
    (λ next rest fits is. has.torn (first has.tail next rest fits is)) header snapshot two
few_are_no_two octets (payload ∷ next ∷ payloads) has few header snapshot two = absurd (omega (arith, few))

-- the parts of a generation stand at the front, two frames first
two_parts : (octets : List ℕ) (payloads : List (List ℕ)) (parts : TwoAndRest) → HasPayloads octets payloads
    → AreParts payloads parts → HasTwo octets parts.front.payload.now parts.snapshot.payload.now
two_parts octets payloads parts has are =
    let one : List ℕ = parts.front.payload.now in
    let two : List ℕ = parts.snapshot.payload.now in
    let more : List (List ℕ) = map (λ (payload : Bor (List ℕ)). payload.now) parts.batches.now in
    let fit : AllByRecursion Fits (one ∷ two ∷ more) = subst (AllByRecursion Fits) are.are has.fit in
    record {
      rest = frames more ++ has.tail;
      first_fits = fit.0;
      second_fits = fit.1.0;
      is = has.parts ∙ ap (λ (l : List (List ℕ)). frames l ++ has.tail) are.are
          ∙ append_assoc (frame one) (frame two ++ frames more) has.tail
          ∙ ap (λ (o : List ℕ). frame one ++ o) (append_assoc (frame two) (frames more) has.tail);
    }

pub parts_are_begun : (octets : List ℕ) (payloads : List (List ℕ)) (parts : TwoAndRest) → HasPayloads octets payloads
    → AreParts payloads parts → IsBegun octets
parts_are_begun octets payloads parts has are = record {
  first = parts.front.payload.now;
  second = parts.snapshot.payload.now;
  two = two_parts octets payloads parts has are;
}
