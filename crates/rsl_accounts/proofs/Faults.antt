-- The first fault of some checks, as a loop over them finds it.
use Rattle.std.proofs.Common.{◌≡◌, ℕ, ◌+◌, ◌<◌, List, [], ◌∷◌, ◌++◌, length, get_or, drop, Option, None, Some, refl, sym, ap, ◌∙◌}
use Rattle.std.proofs.lemmas.List.{drop_more}
use Rattle.std.specs.List.{flat_map}
use Rattle.rsl_accounts.specs.declared.fault.ConfigFault.{ConfigFault}
use Rattle.rsl_accounts.specs.Walk.{first_fault}

-- checks that pass change nothing for those after them
pub first_fault-append : (xs ys : List (Option ConfigFault)) → first_fault xs ≡ None → first_fault (xs ++ ys) ≡ first_fault ys
first_fault-append [] ys passed = refl
first_fault-append (None ∷ xs) ys passed = first_fault-append xs ys passed
first_fault-append (Some fault ∷ xs) ys passed = cc

-- a fault is the first one whatever follows
pub first_fault-stays : (xs ys : List (Option ConfigFault)) (fault : ConfigFault) → first_fault xs ≡ Some fault → first_fault (xs ++ ys) ≡ Some fault
first_fault-stays [] ys fault found = cc
first_fault-stays (None ∷ xs) ys fault found = first_fault-stays xs ys fault found
first_fault-stays (Some other ∷ xs) ys fault found = found

module _ {X : Type 0} (f : X → List (Option ConfigFault)) (xs : List X) (i : ℕ) (x : X) (within : i < length xs) (is : x ≡ get_or xs i x) where
  here : flat_map f (drop i xs) ≡ f x ++ flat_map f (drop (i + 1) xs)
  here = rw (drop_more xs i x within, ← is)

  -- a loop goes on after checks that pass
  pub checks_passed : first_fault (f x) ≡ None → first_fault (flat_map f (drop i xs)) ≡ first_fault (flat_map f (drop (i + 1) xs))
  checks_passed passed = ap first_fault here ∙ first_fault-append (f x) (flat_map f (drop (i + 1) xs)) passed

  -- and stops at the first that do not
  pub checks_failed : (fault : ConfigFault) → first_fault (f x) ≡ Some fault → first_fault (flat_map f (drop i xs)) ≡ Some fault
  checks_failed fault failed = ap first_fault here ∙ first_fault-stays (f x) (flat_map f (drop (i + 1) xs)) fault failed

  -- the fault that the loop returns is that of the whole
  pub checks_found : {whole : Option ConfigFault} (fault : ConfigFault) → whole ≡ first_fault (flat_map f (drop i xs)) → Some fault ≡ first_fault (f x) → Some fault ≡ whole
  checks_found fault so_far found = sym (so_far ∙ checks_failed fault (sym found))

  pub checks_go_on : {whole : Option ConfigFault} → whole ≡ first_fault (flat_map f (drop i xs)) → None ≡ first_fault (f x) → whole ≡ first_fault (flat_map f (drop (i + 1) xs))
  checks_go_on so_far passed = so_far ∙ checks_passed (sym passed)

-- some checks after others: the fault is that of the first that fail
pub checks_here : {fault : ConfigFault} (xs ys : List (Option ConfigFault)) → Some fault ≡ first_fault xs → Some fault ≡ first_fault (xs ++ ys)
checks_here xs ys failed = sym (first_fault-stays xs ys _ (sym failed))

pub checks_next : {fault : Option ConfigFault} (xs ys : List (Option ConfigFault)) → None ≡ first_fault xs → fault ≡ first_fault ys → fault ≡ first_fault (xs ++ ys)
checks_next xs ys passed rest = rest ∙ sym (first_fault-append xs ys (sym passed))

pub ruleset loop_steps = (checks_passed, checks_failed, checks_found, checks_go_on)

pub ruleset checks_steps = (checks_here, checks_next)
