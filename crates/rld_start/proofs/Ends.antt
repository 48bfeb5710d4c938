-- What stands behind the whole frames of a log.
use Rattle.std.proofs.Common.{◌≡◌, ℕ, List, drop, subst, sym, ◌∙◌}
use Rattle.std.specs.Coded.{coded_ℕ}
use Rattle.std.proofs.Math.Logic.{∥∥₁_elim}
use denote.Struct.Props.{≡_prop}
use Rattle.rld_log.specs.Frames.{EndsAt}
use Rattle.rld_log.proofs.Callers.{ends_so}
use Rattle.rld_start.specs.Firsts.{IsUnspoilt}
use Rattle.rld_start.specs.Lengths.{HasSpoiltLength}

-- whole frames end at one place, so where no length is spoilt there none is anywhere
pub none_spoilt : (octets : List ℕ) (whole : ℕ) → ∥ EndsAt octets whole ∥₁ → (HasSpoiltLength (drop whole octets) → ⊥)
    → IsUnspoilt octets
none_spoilt octets whole ends none at spoilt =
    let same : at ≡ whole = ∥∥₁_elim spoilt.0 (≡_prop coded_ℕ _ _)
    (λ (there : EndsAt octets at). there.size ∙ sym (ends_so octets whole ends there.payloads there.has)) in
    none (subst (λ (n : ℕ). HasSpoiltLength (drop n octets)) same spoilt.1)
