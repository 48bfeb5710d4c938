-- The numbers of the accounts of a shard, and tests on numbers.
use Rattle.std.proofs.Common.{◌≡◌, ℕ, zero, suc, ◌+◌, ◌*◌, ◌/◌, ◌%◌, ◌<◌, ◌≤◌, ◌⊎◌, List, [], ◌∷◌, length, Bool, true, false, ◌==◌, None, inl, inr, refl, sym, ◌∙◌, arith}
use Rattle.std.specs.Prelude.{slice_get}
use Rattle.std.proofs.Math.Nat.{add-mod_right, mul-le-mul_right, suc-mul}
use Rattle.std.proofs.lemmas.Bool.{cases_lt, eqb-true, eq-eqb}
use Rattle.std.proofs.lemmas.Nat.{div-add-mod'}

-- an account of a shard stands at its index
pub account_is : (shards shard account : ℕ) → account % shards ≡ shard → account ≡ shard + account / shards * shards
account_is shards shard account is = omega (arith, div-add-mod' account shards, is)

pub unequal : (a b : ℕ) → (a == b) ≡ false → a ≡ b → ⊥
unequal a b is same = clash (sym is ∙ eq-eqb a b same)
  where
    clash : false ≡ true → ⊥
    clash h = cc

-- what stands within a list is there
pub there : {A : Type 0} (xs : List A) (at : ℕ) → at < length xs → slice_get xs at ≡ None → ⊥
there [] at less none = omega (arith, less)
there (x ∷ xs) zero less none = cc
there (x ∷ xs) (suc at) less none = there xs at (omega (arith, less)) none

pub differs : (a b : ℕ) → (a ≡ b → ⊥) → (a == b) ≡ false
differs a b other = by (a == b) refl
  where
    by : (t : Bool) → (a == b) ≡ t → t ≡ false
    by true is = absurd (other (eqb-true a b is))
    by false is = refl

-- numbers that are less than `shards` apart are not of one shard
pub apart : (shards number ahead : ℕ) → suc ahead < shards → (number + suc ahead) % shards ≡ number % shards → ⊥
apart shards number ahead less is = by (cases_lt (number / shards) ((number + suc ahead) / shards))
  where
    one : number / shards * shards + number % shards ≡ number
    one = div-add-mod' number shards

    other : (number + suc ahead) / shards * shards + (number + suc ahead) % shards ≡ number + suc ahead
    other = div-add-mod' (number + suc ahead) shards

    by : (number / shards < (number + suc ahead) / shards) ⊎ ((number + suc ahead) / shards ≤ number / shards) → ⊥
    by (inl below) =
        let more : suc (number / shards) * shards ≤ (number + suc ahead) / shards * shards = mul-le-mul_right shards (omega (arith, below)) in
        let long : suc (number / shards) * shards ≡ number / shards * shards + shards = suc-mul (number / shards) shards in
        omega (arith, less, is, one, other, more, long)
    by (inr above) =
        let less_still : (number + suc ahead) / shards * shards ≤ number / shards * shards = mul-le-mul_right shards above in
        omega (arith, is, one, other, less_still)

-- the next account of a shard
pub next_of_shard : (shards number shard : ℕ) → number % shards ≡ shard → (number + shards) % shards ≡ shard
next_of_shard shards number shard is = add-mod_right number shards ∙ is
