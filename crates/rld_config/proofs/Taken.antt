-- The first table that has what one before it has, as a loop over the tables finds it.
use Rattle.std.proofs.Common.{◌≡◌, ℕ, ◌+◌, ◌<◌, List, length, get_or, take, drop, Option, ◌∙◌}
use Rattle.std.proofs.lemmas.List.{take_more, drop_more}
use Rattle.rld_config.specs.declared.fault.ServerFault.{ServerFault}
use Rattle.rld_config.specs.Server.{first_of, first_taken}

module _ {T : Type 0} (taken : List T → T → Option ServerFault) (xs : List T) (i : ℕ) (x : T) (within : i < length xs) (is : x ≡ get_or xs i x) where
  here : first_taken taken (take i xs) (drop i xs) ≡ first_of (taken (take i xs) x) (first_taken taken (take (i + 1) xs) (drop (i + 1) xs))
  here = rw (drop_more xs i x within, take_more xs i x within, ← is)
