-- The held links of a past, from those that were held before its last event.
use Rattle.std.proofs.Common.{◌≡◌, ℕ, suc, ◌<◌, ◌≤◌, List, [], ◌∷◌, ◌++◌, length, Bool, true, false, cond, ◌&&◌, ◌||◌, not, refl, ap, ◌∙◌, arith}
use Rattle.std.specs.Prelude.{filter, nat_le}
use Rattle.std.specs.List.{list_all}
use Rattle.std.proofs.lemmas.Bool.{le-leb, lt-leb, and_parts}
use Rattle.std.proofs.lemmas.List.Elements.{filter-append}
use Rattle.rsl_accounts.specs.declared.rules.Rules.{Rules}
use Rattle.rsl_session.specs.declared.past_event.PastEvent.{PastEvent}
use Rattle.rsl_session.specs.Past.{Past}
use Rattle.rsl_session.specs.Clock.{clock_at}
use Rattle.rsl_session.specs.Link.{links, opens}
use Rattle.rsl_session.specs.Lapse.{lapses}
use Rattle.rsl_session.specs.Held.{held_links, held_before, is_freed, ends, ended_by, yields}
use Rattle.rsl_session.proofs.Ruled.{is_in, is_in-true, links-in}

-- a link that has not opened has not ended
pub freed_later : (rules : Rules) (past : Past) (link : ℕ) → length past < link → is_freed rules link past ≡ false
unfolding is_freed
freed_later rules [] link later = refl
freed_later rules (entry ∷ past) link later =
    let older : is_freed rules link past ≡ false = freed_later rules past link (omega arith) in
    let new : nat_le link (length past) ≡ false = lt-leb link (length past) (omega arith) in
    rw (older, new) refl

-- a link that has opened ends at an event or yields to it, or had ended before it
pub freed_older : (rules : Rules) (entry : PastEvent) (past : Past) (link : ℕ) → link ≤ length past
    → is_freed rules link (entry ∷ past) ≡ (is_freed rules link past || (ends rules past entry.event link || yields link entry.outcome))
unfolding is_freed
freed_older rules entry past link older =
    let within : nat_le link (length past) ≡ true = le-leb link (length past) older in
    rw within refl

-- one filter after another
pub filter-filter : (t p q r : ℕ → Bool) → ((x : ℕ) → t x ≡ true → r x ≡ (p x && q x)) → (xs : List ℕ) → list_all t xs ≡ true → filter r xs ≡ filter q (filter p xs)
filter-filter t p q r is [] all = refl
filter-filter t p q r is (x ∷ xs) all =
    let parts = and_parts (t x) (list_all t xs) all in
    by_cases t p q r x xs (r x) (p x) (q x) refl (is x parts.0) (filter-filter t p q r is xs parts.1) where
      by_cases : (t p q r : ℕ → Bool) (x : ℕ) (xs : List ℕ) (a b c : Bool) → q x ≡ c → a ≡ (b && c) → filter r xs ≡ filter q (filter p xs)
          → cond a (x ∷ filter r xs) (filter r xs) ≡ filter q (cond b (x ∷ filter p xs) (filter p xs))
      by_cases t p q r x xs a true c here both rest = rw (both, here) (ap (λ ys. cond c (x ∷ ys) ys) rest)
      by_cases t p q r x xs a false c here both rest = rw both rest

pub not-or : (a b : Bool) → not (a || b) ≡ (not a && not b)
not-or true b = refl
not-or false b = refl

not-or3 : (a b c : Bool) → not ((a || b) || c) ≡ (not a && not (b || c))
not-or3 true b c = refl
not-or3 false b c = refl

-- whether an event's act ends a link, or the link yields to the event
unfoldable pub gives_way : PastEvent → Past → ℕ → Bool
gives_way entry past link = ended_by past (clock_at past entry.event) entry.event.act link || yields link entry.outcome

-- the links that an event leaves of those that were held
unfoldable pub left_by : Rules → PastEvent → Past → List ℕ
left_by rules entry past = filter (λ link. not (gives_way entry past link)) (held_before rules past entry.event)

pub any_link : ℕ → Bool
any_link link = true

pub list_all_any : (xs : List ℕ) → list_all any_link xs ≡ true
unfolding any_link
list_all_any [] = refl
list_all_any (x ∷ xs) = list_all_any xs

pub left_by-held : (rules : Rules) (entry : PastEvent) (past : Past)
    → filter (λ link. not (ends rules past entry.event link || yields link entry.outcome)) (held_links rules past) ≡ left_by rules entry past
unfolding left_by held_before ends gives_way
left_by-held rules entry past =
    filter-filter any_link (λ link. not (lapses rules past entry.event link)) (λ link. not (ended_by past (clock_at past entry.event) entry.event.act link || yields link entry.outcome))
    (λ link. not ((lapses rules past entry.event link || ended_by past (clock_at past entry.event) entry.event.act link) || yields link entry.outcome))
    (λ link h. not-or3 (lapses rules past entry.event link) (ended_by past (clock_at past entry.event) entry.event.act link) (yields link entry.outcome))
    (held_links rules past) (list_all_any (held_links rules past))

older_left : (rules : Rules) (entry : PastEvent) (past : Past) → filter (λ link. not (is_freed rules link (entry ∷ past))) (links past) ≡ left_by rules entry past
unfolding held_links
older_left rules entry past =
    filter-filter (is_in past) (λ link. not (is_freed rules link past)) (λ link. not (ends rules past entry.event link || yields link entry.outcome))
    (λ link. not (is_freed rules link (entry ∷ past)))
    (λ link within. ap not (freed_older rules entry past link (is_in-true past link within))
    ∙ not-or (is_freed rules link past) (ends rules past entry.event link || yields link entry.outcome))
    (links past) (links-in past)
    ∙ left_by-held rules entry past

pub held-quiet : (rules : Rules) (entry : PastEvent) (past : Past) → opens entry.outcome ≡ false → held_links rules (entry ∷ past) ≡ left_by rules entry past
unfolding held_links links
held-quiet rules entry past quiet = rw quiet (older_left rules entry past)

pub held-opened : (rules : Rules) (entry : PastEvent) (past : Past) → opens entry.outcome ≡ true → held_links rules (entry ∷ past) ≡ left_by rules entry past ++ suc (length past) ∷ []
unfolding held_links links is_freed
held-opened rules entry past new =
    let here : is_freed rules (suc (length past)) past ≡ false = freed_later rules past (suc (length past)) (omega arith) in
    let first : nat_le (suc (length past)) (length past) ≡ false = lt-leb (suc (length past)) (length past) (omega arith) in
    let alone : filter (λ link. not (is_freed rules link (entry ∷ past))) (suc (length past) ∷ []) ≡ suc (length past) ∷ [] = rw (here, first) refl in
    rw new (filter-append (λ link. not (is_freed rules link (entry ∷ past))) (links past) (suc (length past) ∷ [])
    ∙ ap (λ ys. ys ++ filter (λ link. not (is_freed rules link (entry ∷ past))) (suc (length past) ∷ [])) (older_left rules entry past)
    ∙ ap (λ ys. left_by rules entry past ++ ys) alone)
