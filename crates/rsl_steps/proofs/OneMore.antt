-- One step more after some steps: an account's own events, and the moves of a shard.
use Rattle.std.proofs.Common.{◌≡◌, ℕ, zero, suc, ◌+◌, ◌<◌, ◌≤◌, List, [], ◌∷◌, ◌++◌, length, set, Option, Some, None, refl, ap, ◌∙◌, inl, inr, ◌⊎◌, arith}
use Rattle.std.specs.Prelude.{reverse, filter_map, slice_get}
use Rattle.std.specs.Option.{option_to_list}
use Rattle.std.specs.List.{cons_option}
use Rattle.std.proofs.lemmas.List.{length-append, reverse-append}
use Rattle.std.proofs.lemmas.List.Elements.{filter_map-append}
use Rattle.rsl_accounts.specs.Configuration.{Configuration}
use Rattle.rsl_steps.specs.Moves.{move_of, shard_moves}
use Rattle.rsl_steps.specs.Own.{event_of, own, own_events}
use Rattle.rsl_steps.specs.declared.step.Step.{Step}

only : {X : Type 0} (o : Option X) → cons_option o [] ≡ option_to_list o
only None = refl
only (Some x) = refl

filter_map-cons : {X Y : Type 0} (f : X → Option Y) (x : X) (before : List X) → filter_map f (reverse (x ∷ before)) ≡ filter_map f (reverse before) ++ option_to_list (f x)
filter_map-cons f x before =
    ap (filter_map f) (reverse-append (x ∷ []) before)
    ∙ filter_map-append f (reverse before) (x ∷ [])
    ∙ ap (λ ys. filter_map f (reverse before) ++ ys) (only (f x))

pub own-cons : (config : Configuration) (boot number : ℕ) (step : Step) (before : List Step)
    → own config boot number (step ∷ before) ≡ own config boot number before ++ option_to_list (event_of config boot number step)
unfolding own own_events
own-cons config boot number step before = filter_map-cons (event_of config boot number) step before

pub moves-cons : (config : Configuration) (boot shard : ℕ) (step : Step) (before : List Step)
    → shard_moves config boot shard (step ∷ before) ≡ shard_moves config boot shard before ++ option_to_list (move_of config boot shard step)
unfolding shard_moves
moves-cons config boot shard step before = filter_map-cons (move_of config boot shard) step before

few : {Y : Type 0} (o : Option Y) → length (option_to_list o) ≤ 1
few None = omega arith
few (Some y) = omega arith

nothing : (config : Configuration) (boot shard : ℕ) → length (shard_moves config boot shard []) ≤ 0
unfolding shard_moves
nothing config boot shard = omega arith

-- a shard makes at most one move for each step
pub moves-few : (config : Configuration) (boot shard : ℕ) (before : List Step) → length (shard_moves config boot shard before) ≤ length before
moves-few config boot shard [] = nothing config boot shard
moves-few config boot shard (step ∷ before) =
    let one = few (move_of config boot shard step) in
    let rest = moves-few config boot shard before in
    let long : length (shard_moves config boot shard (step ∷ before)) ≡ length (shard_moves config boot shard before) + length (option_to_list (move_of config boot shard step)) =
    ap length (moves-cons config boot shard step before) ∙ length-append (shard_moves config boot shard before) (option_to_list (move_of config boot shard step)) in
    omega (arith, one, rest, long)

-- ---- elements of lists

-- an element of a list one of whose elements was set
pub set_cases : {X : Type 0} (xs : List X) (n k : ℕ) (v x : X) → slice_get (set xs n v) k ≡ Some x
    → ((k ≡ n) × (x ≡ v)) ⊎ ((k ≡ n → ⊥) × (slice_get xs k ≡ Some x))
set_cases [] n k v x at = absurd (nowhere at)
  where
    nowhere : None ≡ Some x → ⊥
    nowhere e = cc
set_cases (y ∷ ys) zero zero v x at = inl (refl, same at)
  where
    same : Some v ≡ Some x → x ≡ v
    same e = cc
set_cases (y ∷ ys) zero (suc k) v x at = inr ((λ e. omega (arith, e)), at)
set_cases (y ∷ ys) (suc n) zero v x at = inr ((λ e. omega (arith, e)), at)
set_cases (y ∷ ys) (suc n) (suc k) v x at = elim (set_cases ys n k v x at) [ inl both ↦ inl (omega (arith, both.0), both.1) | inr both ↦ inr ((λ e. both.0 (omega (arith, e))), both.1) ]

-- an element of a list with one more at its end
pub push_cases : {X : Type 0} (xs : List X) (k : ℕ) (v x : X) → slice_get (xs ++ v ∷ []) k ≡ Some x
    → ((k ≡ length xs) × (x ≡ v)) ⊎ (slice_get xs k ≡ Some x)
push_cases [] zero v x at = inl (refl, same at)
  where
    same : Some v ≡ Some x → x ≡ v
    same e = cc
push_cases [] (suc k) v x at = absurd (nowhere at)
  where
    nowhere : None ≡ Some x → ⊥
    nowhere e = cc
push_cases (y ∷ ys) zero v x at = inr at
push_cases (y ∷ ys) (suc k) v x at = elim (push_cases ys k v x at) [ inl both ↦ inl (omega (arith, both.0), both.1) | inr was ↦ inr was ]

-- there is an element at each index within a list
pub there_is : {X : Type 0} (xs : List X) (k : ℕ) → k < length xs → (x : X) × (slice_get xs k ≡ Some x)
there_is [] k within = absurd (omega (arith, within))
there_is (x ∷ xs) zero within = (x, refl)
there_is (x ∷ xs) (suc k) within = there_is xs k (omega (arith, within))
