-- Indexes of the table that nothing names: there is one, since there are fewer names than rows, and what is
-- put there changes nothing that is seen.
use Rattle.std.proofs.Common.{◌≡◌, ℕ, zero, suc, ◌+◌, ◌<◌, ◌≤◌, List, [], ◌∷◌, ◌++◌, set, length, map, Bool, true, false, cond, ◌||◌, refl, ap, sym, ◌∙◌, inl, inr, arith, length-append}
use Rattle.std.specs.Prelude.{◌==◌}
use Rattle.std.specs.List.{list_any}
use Rattle.std.proofs.lemmas.Bool.{or_parts, eq-eqb, ne_eqb, eqb-true, cases_eq, false≢true}
use Rattle.std.proofs.lemmas.List.{length-map, get_or-set_other}
use Rattle.rsl_event.specs.declared.nas.Nas.{Nas}
use Rattle.rsl_session.specs.BookLinks.{without_first}
use Rattle.rsl_links.specs.declared.link.Link.{Link}
use Rattle.rsl_book.specs.declared.kept.Kept.{Kept}
use Rattle.rsl_book.specs.declared.kept.DecidedAsk.{DecidedAsk}
use Rattle.rsl_book.specs.declared.kept.EndedSession.{EndedSession}
use Rattle.rsl_book.specs.Seen.{ask_seen, asks_seen, stop_seen, stops_seen}
use Rattle.rsl_book.specs.Named.{is_named, named_by_kept}
use Rattle.rsl_links.specs.Named.{named_by_links}
use Rattle.rsl_links.specs.Seen.{server_at, link_seen, links_seen}

any-append : {A : Type 0} (p : A → Bool) (xs ys : List A) → list_any p (xs ++ ys) ≡ (list_any p xs || list_any p ys)
any-append p [] ys = refl
any-append p (x ∷ xs) ys = by_cases (p x) (any-append p xs ys) where
  by_cases : (b : Bool) → list_any p (xs ++ ys) ≡ (list_any p xs || list_any p ys) → (b || list_any p (xs ++ ys)) ≡ ((b || list_any p xs) || list_any p ys)
  by_cases true rest = refl
  by_cases false rest = rest

any-map : {A B : Type 0} (p : B → Bool) (f : A → B) (xs : List A) → list_any p (map f xs) ≡ list_any (λ x. p (f x)) xs
any-map p f [] = refl
any-map p f (x ∷ xs) = ap (λ b. p (f x) || b) (any-map p f xs)

pub kept_parts : {S : Type 0} (newer older : List (Kept S)) (at : ℕ) → named_by_kept (newer ++ older) at ≡ (named_by_kept newer at || named_by_kept older at)
unfolding named_by_kept
kept_parts {S = S} newer older at = any-append (λ (kept : Kept S). kept.nas == at) newer older

-- the names of a list
names : List Link → List (Kept DecidedAsk) → List (Kept EndedSession) → List ℕ
names links asks stops = map (λ (link : Link). link.nas) links ++ (map (λ (ask : Kept DecidedAsk). ask.nas) asks ++ map (λ (stop : Kept EndedSession). stop.nas) stops)

or_assoc : (a b c : Bool) → ((a || b) || c) ≡ (a || (b || c))
or_assoc true b c = refl
or_assoc false b c = refl

named_among : (links : List Link) (asks : List (Kept DecidedAsk)) (stops : List (Kept EndedSession)) (at : ℕ) → list_any (λ name. name == at) (names links asks stops) ≡ is_named links asks stops at
unfolding names is_named named_by_links named_by_kept
named_among links asks stops at =
    any-append (λ name. name == at) (map (λ (link : Link). link.nas) links) (map (λ (ask : Kept DecidedAsk). ask.nas) asks ++ map (λ (stop : Kept EndedSession). stop.nas) stops)
    ∙ ap (λ b. list_any (λ name. name == at) (map (λ (link : Link). link.nas) links) || b) (any-append (λ name. name == at) (map (λ (ask : Kept DecidedAsk). ask.nas) asks) (map (λ (stop : Kept EndedSession). stop.nas) stops))
    ∙ ap (λ b. b || (list_any (λ name. name == at) (map (λ (ask : Kept DecidedAsk). ask.nas) asks) || list_any (λ name. name == at) (map (λ (stop : Kept EndedSession). stop.nas) stops))) (any-map (λ name. name == at) (λ (link : Link). link.nas) links)
    ∙ ap (λ b. named_by_links links at || (b || list_any (λ name. name == at) (map (λ (stop : Kept EndedSession). stop.nas) stops))) (any-map (λ name. name == at) (λ (ask : Kept DecidedAsk). ask.nas) asks)
    ∙ ap (λ b. named_by_links links at || (named_by_kept asks at || b)) (any-map (λ name. name == at) (λ (stop : Kept EndedSession). stop.nas) stops)
    ∙ sym (or_assoc (named_by_links links at) (named_by_kept asks at) (named_by_kept stops at))

names_length : (links : List Link) (asks : List (Kept DecidedAsk)) (stops : List (Kept EndedSession)) → length (names links asks stops) ≡ length links + length asks + length stops
unfolding names
names_length links asks stops =
    let all = length-append (map (λ (link : Link). link.nas) links) (map (λ (ask : Kept DecidedAsk). ask.nas) asks ++ map (λ (stop : Kept EndedSession). stop.nas) stops) in
    let kept = length-append (map (λ (ask : Kept DecidedAsk). ask.nas) asks) (map (λ (stop : Kept EndedSession). stop.nas) stops) in
    let one = length-map links (λ (link : Link). link.nas) in
    let two = length-map asks (λ (ask : Kept DecidedAsk). ask.nas) in
    let three = length-map stops (λ (stop : Kept EndedSession). stop.nas) in
    omega arith

-- a list without its first element that passes
shorter : {A : Type 0} (p : A → Bool) (xs : List A) → list_any p xs ≡ true → length (without_first p xs) + 1 ≡ length xs
unfolding without_first
shorter p [] some = absurd (false≢true some)
shorter p (x ∷ xs) some = by_cases (p x) some (shorter p xs) where
  by_cases : (b : Bool) → (b || list_any p xs) ≡ true → (list_any p xs ≡ true → length (without_first p xs) + 1 ≡ length xs) → length (cond b xs (x ∷ without_first p xs)) + 1 ≡ suc (length xs)
  by_cases true some rest = omega arith
  by_cases false some rest = let h = rest some in omega arith

still : {A : Type 0} (p q : A → Bool) → ((x : A) → q x ≡ true → p x ≡ false) → (xs : List A) → list_any q xs ≡ true → list_any q (without_first p xs) ≡ true
unfolding without_first
still p q apart [] some = some
still p q apart (x ∷ xs) some = by_cases (p x) (q x) refl refl some (still p q apart xs) where
  by_cases : (b d : Bool) → p x ≡ b → q x ≡ d → (d || list_any q xs) ≡ true → (list_any q xs ≡ true → list_any q (without_first p xs) ≡ true) → list_any q (cond b xs (x ∷ without_first p xs)) ≡ true
  by_cases true true is here some rest = absurd (false≢true (sym (apart x here) ∙ is))
  by_cases true false is here some rest = some
  by_cases false true is here some rest = rw here refl
  by_cases false false is here some rest = rw here (rest some)

-- where each number below n is among the names, there are at least n names
pub pigeons : (n : ℕ) (all : List ℕ) → ((j : ℕ) → j < n → list_any (λ name. name == j) all ≡ true) → n ≤ length all
pigeons zero all named = omega arith
pigeons (suc n) all named =
    let rest = pigeons n (without_first (λ name. name == n) all) (λ (j : ℕ) (low : j < n).
    still (λ name. name == n) (λ name. name == j) (λ (x : ℕ) (is : (x == j) ≡ true). ne_eqb x n (λ (e : x ≡ n). let h : x ≡ j = eqb-true x j is in omega arith)) all (named j (omega arith))) in
    let less = shorter (λ name. name == n) all (named n (omega arith)) in
    omega arith

pub named_more : (named : ℕ → Bool) (n : ℕ) → ((j : ℕ) → j < n → named j ≡ true) → named n ≡ true → (j : ℕ) → j < n + 1 → named j ≡ true
named_more named n below here j low =
    elim (cases_eq j n) [
      | inl same ↦ ap named same ∙ here
      | inr other ↦ below j (omega (arith, other))
    ]

pub few_named : (links : List Link) (asks : List (Kept DecidedAsk)) (stops : List (Kept EndedSession)) (n : ℕ) → ((j : ℕ) → j < n → is_named links asks stops j ≡ true) → n ≤ length links + length asks + length stops
few_named links asks stops n named =
    let most = pigeons n (names links asks stops) (λ j low. named_among links asks stops j ∙ named j low) in
    let sum = names_length links asks stops in
    omega arith

-- where as many are named as there are names, the next is free
pub free_past : (links : List Link) (asks : List (Kept DecidedAsk)) (stops : List (Kept EndedSession)) (n : ℕ) → length links + length asks + length stops ≤ n
    → ((j : ℕ) → j < n → is_named links asks stops j ≡ true) → is_named links asks stops n ≡ false
free_past links asks stops n all named = by_cases (is_named links asks stops n) refl where
  by_cases : (b : Bool) → is_named links asks stops n ≡ b → is_named links asks stops n ≡ false
  by_cases true e = absurd (let few = few_named links asks stops (n + 1) (named_more (is_named links asks stops) n named e) in omega (arith, few, all))
  by_cases false e = e

-- what stands at an index that is not named is not seen
same_nas_at : (servers : List Nas) (nas : Nas) (at name : ℕ) → (name == at) ≡ false → server_at (set servers at nas) name ≡ server_at servers name
same_nas_at servers nas at name other = get_or-set_other servers at name nas _ (λ (e : name ≡ at). false≢true (sym other ∙ eq-eqb name at e))

pub links_put : (servers : List Nas) (nas : Nas) (at : ℕ) (links : List Link) → named_by_links links at ≡ false → links_seen (set servers at nas) links ≡ links_seen servers links
unfolding links_seen named_by_links link_seen
links_put servers nas at [] free = refl
links_put servers nas at (link ∷ links) free =
    let parts = or_parts (link.nas == at) (list_any (λ (one : Link). one.nas == at) links) free in
    rw (same_nas_at servers nas at link.nas parts.0) (ap (λ rest. link_seen servers link ∷ rest) (links_put servers nas at links parts.1))

-- nor are those that are kept, with what is seen of each by its access server
kept_put : {S B : Type 0} (view : List Nas → Kept S → B) → ((one two : List Nas) (kept : Kept S) → server_at one kept.nas ≡ server_at two kept.nas → view one kept ≡ view two kept)
    → (servers : List Nas) (nas : Nas) (at : ℕ) (all : List (Kept S)) → named_by_kept all at ≡ false → map (view (set servers at nas)) all ≡ map (view servers) all
unfolding named_by_kept
kept_put view by_server servers nas at [] free = refl
kept_put {S = S} view by_server servers nas at (one ∷ all) free =
    let parts = or_parts (one.nas == at) (list_any (λ (other : Kept S). other.nas == at) all) free in
    rw (by_server (set servers at nas) servers one (same_nas_at servers nas at one.nas parts.0)) (ap (λ rest. view servers one ∷ rest) (kept_put view by_server servers nas at all parts.1))

pub asks_put : (servers : List Nas) (nas : Nas) (at : ℕ) (asks : List (Kept DecidedAsk)) → named_by_kept asks at ≡ false → asks_seen (set servers at nas) asks ≡ asks_seen servers asks
unfolding asks_seen ask_seen
asks_put servers nas at asks free = kept_put ask_seen (λ one two kept same. rw same refl) servers nas at asks free

pub stops_put : (servers : List Nas) (nas : Nas) (at : ℕ) (stops : List (Kept EndedSession)) → named_by_kept stops at ≡ false → stops_seen (set servers at nas) stops ≡ stops_seen servers stops
unfolding stops_seen stop_seen
stops_put servers nas at stops free = kept_put stop_seen (λ one two kept same. rw same refl) servers nas at stops free

pub not_named : (links : List Link) (asks : List (Kept DecidedAsk)) (stops : List (Kept EndedSession)) (at : ℕ) → is_named links asks stops at ≡ false
    → (named_by_links links at ≡ false) × ((named_by_kept asks at ≡ false) × (named_by_kept stops at ≡ false))
unfolding is_named
not_named links asks stops at free =
    let most = or_parts (named_by_links links at || named_by_kept asks at) (named_by_kept stops at) free in
    let first = or_parts (named_by_links links at) (named_by_kept asks at) most.0 in
    (first.0, (first.1, most.1))
