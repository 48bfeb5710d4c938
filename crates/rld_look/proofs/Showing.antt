-- One more at the end of a list, and one more of a list that is gone through.
use Rattle.std.proofs.Common.{◌≡◌, ℕ, zero, suc, ◌+◌, ◌<◌, ◌≤◌, List, [], ◌∷◌, ◌++◌, length, drop, get_or, Option, Some, None, add-one, drop-cons, append_assoc, arith, refl, ap, ◌∙◌, sym}
use Rattle.std.specs.List.{filter_map, cons_option}
use Rattle.std.specs.Prelude.{IfSome, slice_get, option_map}
use Rattle.std.proofs.lemmas.Option.{slice_get_past}
use Rattle.rsl_accounts.specs.Configuration.{Configuration}
use Rattle.rsl_accounts.specs.declared.entry.Entry.{Entry}
use Rattle.rsl_shard.specs.declared.row.Row.{Row}
use Rattle.rld_look.specs.Accounts.{look_of, looks_of}
use Rattle.rld_look.specs.Totals.{totals_after, with_row}
use Rattle.rld_look.specs.declared.look.AccountLook.{AccountLook}
use Rattle.rld_look.specs.declared.totals.Totals.{Totals}

-- what holds of each and of one more holds of each with that one
pub pushed : {X : Type 0} (P : ℕ → X → Type 0) (xs : List X) (x : X) → ((k : ℕ) → IfSome (slice_get xs k) (P k))
    → P (length xs) x → (k : ℕ) → IfSome (slice_get (xs ++ x ∷ []) k) (P k)
pushed P [] x before last zero = last
pushed P [] x before last (suc k) = tt
pushed P (y ∷ ys) x before last zero = before zero
pushed P (y ∷ ys) x before last (suc k) = pushed (λ i. P (suc i)) ys x (λ i. before (suc i)) last k

-- one that gives nothing is passed over, and what one gives comes first
past : {X Y : Type 0} (h : X → Option Y) (xs : List X) (i : ℕ) (d : X) → i < length xs → h (get_or xs i d) ≡ None
    → filter_map h (drop i xs) ≡ filter_map h (drop (i + 1) xs)
past {X} {Y} h xs i d within none =
    ap (λ (left : List X). filter_map h left) (drop-cons xs i d within)
    ∙ ap (λ (one : Option Y). cons_option one (filter_map h (drop (suc i) xs))) none
    ∙ ap (λ (n : ℕ). filter_map h (drop n xs)) (sym (add-one i))

given : {X Y : Type 0} (h : X → Option Y) (xs : List X) (i : ℕ) (d : X) (y : Y) → i < length xs → h (get_or xs i d) ≡ Some y
    → filter_map h (drop i xs) ≡ y ∷ filter_map h (drop (i + 1) xs)
given {X} {Y} h xs i d y within some =
    ap (λ (left : List X). filter_map h left) (drop-cons xs i d within)
    ∙ ap (λ (one : Option Y). cons_option one (filter_map h (drop (suc i) xs))) some
    ∙ ap (λ (n : ℕ). y ∷ filter_map h (drop n xs)) (sym (add-one i))

-- the same after those that were done
pub passed_over : {X Y : Type 0} (h : X → Option Y) (xs : List X) (i : ℕ) (d : X) (done all : List Y)
    → i < length xs → h (get_or xs i d) ≡ None
    → all ≡ done ++ filter_map h (drop i xs) → all ≡ done ++ filter_map h (drop (i + 1) xs)
passed_over {X} {Y} h xs i d done all within none so_far =
    so_far ∙ ap (λ (left : List Y). done ++ left) (past h xs i d within none)

pub taken_in : {X Y : Type 0} (h : X → Option Y) (xs : List X) (i : ℕ) (d : X) (y : Y) (done all : List Y)
    → i < length xs → h (get_or xs i d) ≡ Some y
    → all ≡ done ++ filter_map h (drop i xs) → all ≡ (done ++ y ∷ []) ++ filter_map h (drop (i + 1) xs)
taken_in {X} {Y} h xs i d y done all within some so_far =
    so_far ∙ ap (λ (left : List Y). done ++ left) (given h xs i d y within some)
    ∙ sym (append_assoc done (y ∷ []) (filter_map h (drop (i + 1) xs)))

pub ruleset look_steps = (passed_over, taken_in)

there : {X : Type 0} (xs : List X) (i : ℕ) → i < length xs → (x : X) × (slice_get xs i ≡ Some x)
there [] i within = absurd (omega arith)
there (x ∷ xs) zero within = (x, refl)
there (x ∷ xs) (suc i) within = there xs i (omega arith)

-- what all accounts hold, by the rows that are left: a row of no account adds nothing, any other one adds what it has
pub row_past : (config : Configuration) (rows : List Row) (i : ℕ) (d : Row) (totals all : Totals) → i < length rows
    → length config.accounts ≤ (get_or rows i d).account
    → all ≡ totals_after totals (looks_of config (drop i rows)) → all ≡ totals_after totals (looks_of config (drop (i + 1) rows))
row_past config rows i d totals all within other so_far =
    so_far ∙ ap (λ (left : List AccountLook). totals_after totals left)
    (past (look_of config) rows i d within
    (ap (λ (one : Option Entry). option_map (λ (entry : Entry). record { name = entry.name; row = get_or rows i d }) one) (slice_get_past config.accounts (get_or rows i d).account other)))

pub row_added : (config : Configuration) (rows : List Row) (i : ℕ) (d : Row) (totals all : Totals) → i < length rows
    → (get_or rows i d).account < length config.accounts
    → all ≡ totals_after totals (looks_of config (drop i rows))
    → all ≡ totals_after (with_row totals (get_or rows i d)) (looks_of config (drop (i + 1) rows))
row_added config rows i d totals all within own so_far =
    let found = there config.accounts (get_or rows i d).account own in
    so_far ∙ ap (λ (left : List AccountLook). totals_after totals left)
    (given (look_of config) rows i d (record { name = found.0.name; row = get_or rows i d }) within
    (ap (λ (one : Option Entry). option_map (λ (entry : Entry). record { name = entry.name; row = get_or rows i d }) one) found.1))

pub ruleset total_steps = (row_past, row_added)
