-- How long a look is shown.
use Rattle.std.specs.Prelude.{◌≡◌, ℕ, Bool, true, false, ◌-◌, nat_lt, Option, Some, None, IfSome}
use Rattle.rld_web.specs.declared.page_service.TheConstants.{LOOK_MILLIS}

-- whether there is a look, which was taken less than a second before this moment
abbrev pub is_fresh : {T : Type 0} → Option T → (taken now : ℕ) → Bool
is_fresh None taken now = false
is_fresh (Some look) taken now = nat_lt (now - taken) LOOK_MILLIS

-- a look that is fresh stays, and any other is taken anew, at this moment
abbrev pub IsTakenIf : {T : Type 0} → (fresh : Bool) → (shows : ℕ → T → Type 0) → (now : ℕ)
    → (old : Option T) → (old_taken : ℕ) → (new : Option T) → (new_taken : ℕ) → Type 0
IsTakenIf true shows now old old_taken new new_taken = (new ≡ old) × (new_taken ≡ old_taken)
IsTakenIf false shows now old old_taken new new_taken = IfSome new (shows now) × (new_taken ≡ now)

abbrev pub IsTaken : {T : Type 0} → (shows : ℕ → T → Type 0) → (now : ℕ)
    → (old : Option T) → (old_taken : ℕ) → (new : Option T) → (new_taken : ℕ) → Type 0
IsTaken shows now old old_taken new new_taken =
    IsTakenIf (is_fresh old old_taken now) shows now old old_taken new new_taken

-- where no look is needed none is taken
abbrev pub IsTakenWhere : {T : Type 0} → (needed : Bool) → (shows : ℕ → T → Type 0) → (now : ℕ)
    → (old : Option T) → (old_taken : ℕ) → (new : Option T) → (new_taken : ℕ) → Type 0
IsTakenWhere true shows now old old_taken new new_taken = IsTaken shows now old old_taken new new_taken
IsTakenWhere false shows now old old_taken new new_taken = (new ≡ old) × (new_taken ≡ old_taken)

-- what is shown after a request: what was taken for it, or else what was kept
abbrev pub shown_of : {T : Type 0} → (taken : Option (Option T)) → (kept : Option T) → Option T
shown_of None kept = kept
shown_of (Some taken) kept = taken

-- and when that was taken
abbrev pub taken_at : {T : Type 0} → (taken : Option (Option T)) → (kept now : ℕ) → ℕ
taken_at None kept now = kept
taken_at (Some taken) kept now = now
