-- The account of a name.
use Rattle.std.proofs.Common.{◌≡◌, ℕ, ◌<◌, Bool, true, false, cond, ltb, List, length, Option, Some, None, refl, arith}
use Rattle.std.specs.Prelude.{position}
use Rattle.std.specs.List.{position_or_len}
use Rattle.std.proofs.lemmas.Bool.{ltb-true}
use Rattle.rsl_accounts.specs.Configuration.{Configuration, account_number, same_octets}

-- an index that is found is one of the list
position_within : {X : Type 0} (p : X → Bool) (xs : List X) (i : ℕ) → position p xs ≡ Some i → i < length xs
position_within p xs i e = by (ltb (position_or_len p xs) (length xs)) refl e
  where
    by : (b : Bool) → ltb (position_or_len p xs) (length xs) ≡ b → cond b (Some (position_or_len p xs)) None ≡ Some i → i < length xs
    by true t f = let within = ltb-true _ _ t in let same : position_or_len p xs ≡ i = cc in omega (arith, within, same)
    by false t f = absurd cc

pub named_within : (config : Configuration) (name : List ℕ) (account : ℕ) → account_number config name ≡ Some account → account < length config.accounts
named_within config name account e = position_within (λ a. same_octets name a.name) config.accounts account e
