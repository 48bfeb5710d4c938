-- A sweep of the kept asks and stops, one by one; and what it leaves as it was.
use Rattle.std.proofs.Common.{◌≡◌, ℕ, ◌+◌, ◌<◌, ◌≤◌, List, [], ◌∷◌, ◌++◌, take, drop, set, get_or, length, map, refl, ap, ◌∙◌, append-nil}
use Rattle.std.proofs.lemmas.List.{drop_all, take_all}
use Rattle.std.proofs.lemmas.List.Edits.{map_over_more}
use Rattle.rsl_event.specs.declared.nas.Nas.{Nas}
use Rattle.rsl_session.specs.BookStep.{sweep_ask, sweep_stop}
use Rattle.rsl_book.specs.declared.kept.Kept.{Kept}
use Rattle.rsl_book.specs.declared.kept.DecidedAsk.{DecidedAsk}
use Rattle.rsl_book.specs.declared.kept.EndedSession.{EndedSession}
use Rattle.rsl_book.specs.Seen.{ask_seen, asks_seen, stop_seen, stops_seen, sweep_kept}

-- those at hand are the first, changed, and the rest
pub changed_more : {A : Type 0} (g : A → A) (orig xs : List A) (i : ℕ) (x y : A) → i < length orig → xs ≡ map g (take i orig) ++ drop i orig → x ≡ get_or xs i x → y ≡ g x
    → set xs i y ≡ map g (take (i + 1) orig) ++ drop (i + 1) orig
changed_more g orig xs i x y within so_far is changed =
    ap (set xs i) changed ∙ map_over_more g orig xs i x within so_far is

pub changed_all : {A : Type 0} (g : A → A) (orig : List A) (i : ℕ) → length orig ≤ i → map g (take i orig) ++ drop i orig ≡ map g orig
changed_all g orig i all = ap (λ ys. map g ys ++ drop i orig) (take_all i orig all) ∙ ap (λ ys. map g orig ++ ys) (drop_all i orig all) ∙ append-nil (map g orig)

-- what a change leaves of each as it was
pub map_unchanged : {A B : Type 0} (f : A → B) (g : A → A) → ((x : A) → f (g x) ≡ f x) → (xs : List A) → map f (map g xs) ≡ map f xs
map_unchanged f g same [] = refl
map_unchanged f g same (x ∷ xs) = rw (same x) (ap (λ ys. f x ∷ ys) (map_unchanged f g same xs))

pub subjects_swept : {S : Type 0} (print : S → ℕ) (servers : List Nas) (nas : Nas) (delay now : ℕ) (all : List (Kept S))
    → map (λ (one : Kept S). print one.subject) (map (sweep_kept servers nas delay now) all) ≡ map (λ (one : Kept S). print one.subject) all
unfolding sweep_kept
subjects_swept {S = S} print servers nas delay now all = map_unchanged (λ (one : Kept S). print one.subject) (sweep_kept servers nas delay now) (λ one. refl) all

-- what is seen of them then
map_through : {A B : Type 0} (f : A → B) (g : A → A) (h : B → B) → ((x : A) → f (g x) ≡ h (f x)) → (xs : List A) → map f (map g xs) ≡ map h (map f xs)
map_through f g h same [] = refl
map_through f g h same (x ∷ xs) = rw (same x) (ap (λ ys. h (f x) ∷ ys) (map_through f g h same xs))

pub asks_swept : (servers : List Nas) (nas : Nas) (delay now : ℕ) (asks : List (Kept DecidedAsk)) → asks_seen servers (map (sweep_kept servers nas delay now) asks) ≡ map (sweep_ask nas delay now) (asks_seen servers asks)
unfolding asks_seen ask_seen sweep_ask sweep_kept
asks_swept servers nas delay now asks = map_through (ask_seen servers) (sweep_kept servers nas delay now) (sweep_ask nas delay now) (λ ask. refl) asks

pub stops_swept : (servers : List Nas) (nas : Nas) (delay now : ℕ) (stops : List (Kept EndedSession)) → stops_seen servers (map (sweep_kept servers nas delay now) stops) ≡ map (sweep_stop nas delay now) (stops_seen servers stops)
unfolding stops_seen stop_seen sweep_stop sweep_kept
stops_swept servers nas delay now stops = map_through (stop_seen servers) (sweep_kept servers nas delay now) (sweep_stop nas delay now) (λ stop. refl) stops

pub ruleset swept_steps = (changed_more, changed_all)
