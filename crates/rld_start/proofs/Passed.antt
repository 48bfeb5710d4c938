-- Which generations were passed over, one after the other.
use Rattle.std.proofs.Common.{◌≡◌, ◌⊎◌, All, ℕ, List, [], ◌∷◌, ◌++◌, Option, None, Some, refl, sym, subst, inl, inr, get_or, Contains}
use Rattle.std.proofs.lemmas.Bool.{cases_order}
use Rattle.std.proofs.lemmas.List.Elements.{Contains-append_left, Contains-push}
use Rattle.rld_folder.specs.Newest.{IsBelow, IsNewest, IsNoNewer, Precedes}
use Rattle.rld_folder.specs.declared.name.FileName.{FileName}
use Rattle.rld_folder.specs.declared.name.FileName.TheVariants.{Lock, FormerTable, Log}
use Rattle.rld_folder.specs.declared.name.Generation.{Generation}
use Rattle.rld_folder.specs.declared.name.Generation.TheVariants.{Former, Numbered}
use Rattle.rld_start.specs.Founds.{HasFirst, IsLogPassed, IsNewerPassed, IsNewestOf, IsPassed}
use Rattle.rld_start.specs.declared.newest.Begun.{Begun}
use Rattle.rld_start.specs.declared.look.Unbegun.{Unbegun}

-- two generations of eras with the same numbers are the same
same_former : (era number other_era other_number : ℕ) → era ≡ other_era → number ≡ other_number
    → Former era number ≡ Former other_era other_number
same_former era number other_era other_number eras numbers =
    subst (λ (e : ℕ). Former era number ≡ Former e other_number) eras
    (subst (λ (n : ℕ). Former era number ≡ Former era n) numbers refl)

-- of two generations one is before the other, or they are the same
pub either_precedes : (one other : Generation) → (one ≡ other) ⊎ (Precedes one other ⊎ Precedes other one)
either_precedes (Former era number) (Former other_era other_number) =
    elim (cases_order era other_era) [
      | inl same ↦ elim (cases_order number other_number) [
        | inl numbers ↦ inl (same_former era number other_era other_number same numbers)
        | inr order ↦ elim order [
          | inl below ↦ inr (inl (inr (same, below)))
          | inr above ↦ inr (inr (inr (sym same, above)))
        ]
      ]
      | inr order ↦ elim order [
        | inl below ↦ inr (inl (inl below))
        | inr above ↦ inr (inr (inl above))
      ]
    ]
either_precedes (Former era number) (Numbered other) = inr (inl tt)
either_precedes (Numbered number) (Former other_era other_number) = inr (inr tt)
either_precedes (Numbered number) (Numbered other) =
    elim (cases_order number other) [
      | inl same ↦ inl (subst (λ (n : ℕ). Numbered number ≡ Numbered n) same refl)
      | inr order ↦ elim order [
        | inl below ↦ inr (inl below)
        | inr above ↦ inr (inr above)
      ]
    ]

-- with one generation more that was passed over, each that is not before that one was
pub passed_with : {X : Type 0} (shown : Generation → X) (limit : Option Generation) (passed : List X)
    (next generation : Generation)
    → (IsBelow limit generation → Precedes next generation → ⊥)
    → ((IsBelow limit generation → ⊥) → Contains passed (shown generation))
    → (Precedes generation next → ⊥) → Contains (passed ++ shown next ∷ []) (shown generation)
passed_with shown limit passed next generation no_newer before not_below =
    elim (either_precedes next generation) [
      | inl same ↦ subst (λ (one : Generation). Contains (passed ++ shown next ∷ []) (shown one)) same
          (Contains-push passed (shown next))
      | inr order ↦ elim order [
        | inl newer ↦ Contains-append_left passed (shown next ∷ []) (shown generation) (before (λ below. no_newer below newer))
        | inr older ↦ absurd (not_below older)
      ]
    ]

none_passed_at : (passed : List Unbegun) (file : FileName) → IsPassed None passed file
none_passed_at passed Lock = tt
none_passed_at passed (FormerTable era) = tt
none_passed_at passed (Log generation) = λ not_below. absurd (not_below tt)

-- before a look nothing was passed over
pub none_passed : (files : List FileName) (passed : List Unbegun) → All (IsPassed None passed) files
none_passed files passed k d within = none_passed_at passed (get_or files k d)

one_passed_at : (limit : Option Generation) (next : Generation) (passed : List Unbegun) (file : FileName)
    → IsNoNewer limit (Some next) file → IsPassed limit passed file
    → IsPassed (Some next) (passed ++ record { generation = next } ∷ []) file
one_passed_at limit next passed Lock no_newer so_far = tt
one_passed_at limit next passed (FormerTable era) no_newer so_far = tt
one_passed_at limit next passed (Log generation) no_newer so_far =
    passed_with (λ (one : Generation). record { generation = one }) limit passed next generation no_newer so_far

shown_is : (next : Generation) (shown : Unbegun) → shown.generation ≡ next → shown ≡ record { generation = next }
shown_is next shown is = subst (λ (one : Generation). shown ≡ record { generation = one }) is refl

-- the newest generation below what was looked at is passed over too
pub one_passed : (limit : Option Generation) (files : List FileName) (next : Generation) (passed : List Unbegun)
    (shown : Unbegun) → IsNewest limit files (Some next) → All (IsPassed limit passed) files → shown.generation ≡ next
    → All (IsPassed (Some next) (passed ++ shown ∷ [])) files
one_passed limit files next passed shown newest so_far is =
    subst (λ (one : Unbegun). All (IsPassed (Some next) (passed ++ one ∷ [])) files) (sym (shown_is next shown is))
    (λ k d within. one_passed_at limit next passed (get_or files k d) (newest.no_newer k d within) (so_far k d within))

newer_passed_at : (limit : Option Generation) (counts : Generation) (passed : List Unbegun) (file : FileName)
    → IsNoNewer limit (Some counts) file → IsPassed limit passed file → IsNewerPassed counts passed file
newer_passed_at limit counts passed Lock no_newer so_far = tt
newer_passed_at limit counts passed (FormerTable era) no_newer so_far = tt
newer_passed_at limit counts passed (Log generation) no_newer so_far = λ newer. so_far (λ below. no_newer below newer)

-- the generation that counts, and what was passed over on the way to it
pub counts_among : (limit : Option Generation) (files : List FileName) (counts : Generation) (passed : List Unbegun)
    (found : Begun) → IsNewest limit files (Some counts) → All (IsPassed limit passed) files
    → (found.generation ≡ counts) × HasFirst found → IsNewestOf files (Some found) passed
counts_among limit files counts passed found newest so_far is =
    subst (λ (one : Generation). Contains files (Log one) × All (IsNewerPassed one passed) files × HasFirst found) (sym is.0) (
      newest.there.0,
      λ k d within.
          newer_passed_at limit counts passed (get_or files k d) (newest.no_newer k d within) (so_far k d within),
      is.1,
    )

all_passed_at : (limit : Option Generation) (passed : List Unbegun) (file : FileName)
    → IsNoNewer limit None file → IsPassed limit passed file → IsLogPassed passed file
all_passed_at limit passed Lock no_newer so_far = tt
all_passed_at limit passed (FormerTable era) no_newer so_far = tt
all_passed_at limit passed (Log generation) no_newer so_far = so_far no_newer

-- where none is left, each was passed over
pub all_passed : (limit : Option Generation) (files : List FileName) (passed : List Unbegun)
    → IsNewest limit files None → All (IsPassed limit passed) files → All (IsLogPassed passed) files
all_passed limit files passed newest so_far k d within =
    all_passed_at limit passed (get_or files k d) (newest.no_newer k d within) (so_far k d within)
