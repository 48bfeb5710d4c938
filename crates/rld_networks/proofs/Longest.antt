-- The network with the longest prefix, as a loop over the networks finds it.
use Rattle.std.proofs.Common.{◌≡◌, ℕ, ◌+◌, ◌<◌, Bool, true, false, List, ◌∷◌, length, get_or, drop, filter, Option, Some, None, nat_lt, refl, sym, ap, ◌∙◌, arith}
use Rattle.std.proofs.lemmas.Bool.Decides.{nat_tests}
use Rattle.std.proofs.lemmas.List.{drop_more}
use Rattle.rld_networks.specs.declared.network.Network.{Network}
use Rattle.rld_networks.specs.Networks.{first_longest, longest}

-- which of three comes first does not hang on how they are joined
first_assoc : (a b c : Option Network) → first_longest a (first_longest b c) ≡ first_longest (first_longest a b) c
first_assoc None b c = refl
first_assoc (Some a) None c = refl
first_assoc (Some a) (Some b) None = by (nat_lt a.prefix.len b.prefix.len) refl
  where
    by : (t : Bool) → nat_lt a.prefix.len b.prefix.len ≡ t → first_longest (Some a) (first_longest (Some b) None) ≡ first_longest (first_longest (Some a) (Some b)) None
    by true is = rw is
    by false is = rw is
first_assoc (Some a) (Some b) (Some c) = grind (arith, nat_tests)

module _ (test : Network → Bool) (xs : List Network) (i : ℕ) (x : Network) (within : i < length xs) (is : x ≡ get_or xs i x) where
  here : longest (filter test (drop i xs)) ≡ longest (filter test (x ∷ drop (i + 1) xs))
  here = ap (λ l. longest (filter test l)) (drop_more xs i x within) ∙ ap (λ y. longest (filter test (y ∷ drop (i + 1) xs))) (sym is)

  -- a network that passes is taken up
  pub taken_up : (found : Option Network) → test x ≡ true → first_longest found (longest (filter test (drop i xs))) ≡ first_longest (first_longest found (Some x)) (longest (filter test (drop (i + 1) xs)))
  taken_up found passes = rw (here, passes) (first_assoc found (Some x) (longest (filter test (drop (i + 1) xs))))

  -- and another changes nothing
  pub passed_over : (found : Option Network) → test x ≡ false → first_longest found (longest (filter test (drop i xs))) ≡ first_longest found (longest (filter test (drop (i + 1) xs)))
  passed_over found fails = rw (here, fails)

pub ruleset longest_steps = (taken_up, passed_over)
