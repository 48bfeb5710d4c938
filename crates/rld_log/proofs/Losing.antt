-- What a crash may leave of a log in memory.
use Rattle.std.proofs.Common.{◌≡◌, inl, inr, ℕ, List, [], ◌∷◌, ◌++◌, refl, sym, subst, arith}
use Rattle.std.proofs.lemmas.List.{append-nil, reverse-append}
use Rattle.rld_log.specs.declared.log.Ending.{Ending}
use Rattle.rld_log.specs.declared.log.Ending.TheVariants.{Kill, PowerLoss}
use Rattle.rld_log.specs.declared.memory.Step.{Step}
use Rattle.rld_log.specs.Log.{Appends, Follows, Shortens, Tears}
use Rattle.rld_log.specs.Memory.{Takes, Reaches, reaches}

-- what is reached by a step more
pub one_more : (synced : List ℕ) (made more : List Step) (step : Step) (ending : Ending) → more ≡ made ++ step ∷ []
    → Follows (Takes ending step) (reaches synced made ending) (reaches synced more ending)
one_more synced made more step ending is left reached =
    subst (λ (l : List Step). Reaches ending synced l left) (reverse-append made (step ∷ [])) (subst (λ (l : List Step). reaches synced l ending left) is reached)

pub goes_on : (synced : List ℕ) (made more : List Step) (step : Step) (ending : Ending) (before left : List ℕ) → more ≡ made ++ step ∷ []
    → reaches synced made ending before → Takes ending step before left → reaches synced more ending left
goes_on synced made more step ending before left is reached takes =
    subst (λ (l : List Step). reaches synced l ending left) (sym is)
    (subst (λ (l : List Step). Reaches ending synced l left) (sym (reverse-append made (step ∷ []))) (before, reached, takes))

-- nothing of an append may be left
pub nothing : (octets old : List ℕ) → Appends Shortens octets old old
nothing [] old = record { tail = []; added = sym (append-nil old); torn = inl refl }
nothing (o ∷ octets) old = record { tail = []; added = sym (append-nil old); torn = inr (record { count = 0; few = omega arith; is = refl }) }

-- a step that was not made
pub not_made : (synced : List ℕ) (made same : List Step) (octets : List ℕ) → same ≡ made → (ending : Ending)
    → Follows (Appends (Tears Shortens ending) octets) (reaches synced made ending) (reaches synced same ending)
not_made synced made same octets is Kill left reached = (left, subst (λ (l : List Step). reaches synced l Kill left) is reached, nothing octets left)
not_made synced made same octets is PowerLoss left reached = (left, subst (λ (l : List Step). reaches synced l PowerLoss left) is reached, nothing octets left)
