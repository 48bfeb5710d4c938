-- Links that end, the last first, as the views of them say it.
use Rattle.std.proofs.Common.{◌≡◌, ℕ, ◌+◌, ◌-◌, ◌<◌, ◌≤◌, List, ◌++◌, take, drop, get_or, length, map, Bool, true, false, not, ap, sym, ◌∙◌, arith, length-append}
use Rattle.std.specs.Prelude.{filter}
use Rattle.std.proofs.lemmas.List.{length-take-le, length-map}
use Rattle.rsl_event.specs.declared.nas.Nas.{Nas}
use Rattle.rsl_session.specs.Book.{BookLink}
use Rattle.rsl_links.specs.declared.link.Link.{Link}
use Rattle.rsl_links.specs.Seen.{link_seen, links_seen}
use Rattle.rsl_links.proofs.Lists.{keep_pass, keep_gone, keep_all}

pub seen_pass : (servers : List Nas) (ends : BookLink → Bool) (xs : List Link) (orig : List BookLink) (n : ℕ) (x : Link) (b : Bool) → 0 < n → n ≤ length orig → n ≤ length xs
    → x ≡ get_or xs (n - 1) x → b ≡ ends (link_seen servers x) → b ≡ false
    → links_seen servers xs ≡ take n orig ++ filter (λ y. not (ends y)) (drop n orig)
    → links_seen servers xs ≡ take (n - 1) orig ++ filter (λ y. not (ends y)) (drop (n - 1) orig)
unfolding links_seen
seen_pass servers ends xs orig n x b some within inside is test stays so_far =
    keep_pass (link_seen servers) ends xs orig n (n - 1) x (omega arith) within (omega arith) is (sym test ∙ stays) so_far

pub seen_gone : (servers : List Nas) (ends : BookLink → Bool) (xs ys : List Link) (orig : List BookLink) (n : ℕ) (x : Link) (b : Bool) → 0 < n → n ≤ length orig → n ≤ length xs
    → x ≡ get_or xs (n - 1) x → b ≡ ends (link_seen servers x) → b ≡ true → ys ≡ take (n - 1) xs ++ drop (n - 1 + 1) xs
    → links_seen servers xs ≡ take n orig ++ filter (λ y. not (ends y)) (drop n orig)
    → links_seen servers ys ≡ take (n - 1) orig ++ filter (λ y. not (ends y)) (drop (n - 1) orig)
unfolding links_seen
seen_gone servers ends xs ys orig n x b some within inside is test goes left so_far =
    ap (map (link_seen servers)) left
    ∙ keep_gone (link_seen servers) ends xs orig n (n - 1) x (omega arith) within (omega arith) is (sym test ∙ goes) so_far

pub seen_start : (servers : List Nas) (ends : BookLink → Bool) (xs : List Link) (n : ℕ) → n ≡ length xs
    → links_seen servers xs ≡ take n (links_seen servers xs) ++ filter (λ y. not (ends y)) (drop n (links_seen servers xs))
unfolding links_seen
seen_start servers ends xs n is = keep_all (λ y. not (ends y)) (map (link_seen servers) xs) n (is ∙ sym (length-map xs (link_seen servers)))

pub seen_within : (servers : List Nas) (xs : List Link) (n : ℕ) → n ≡ length xs → n ≤ length (links_seen servers xs)
unfolding links_seen
seen_within servers xs n is = let all = length-map xs (link_seen servers) in omega arith

pub long_enough : (xs ys : List Link) (n : ℕ) → 0 < n → n ≤ length xs → ys ≡ take (n - 1) xs ++ drop (n - 1 + 1) xs → n - 1 ≤ length ys
long_enough xs ys n some inside is =
    let long : length (take (n - 1) xs) ≡ n - 1 = length-take-le (n - 1) xs (omega arith) in
    let sum : length ys ≡ length (take (n - 1) xs) + length (drop (n - 1 + 1) xs) = ap length is ∙ length-append (take (n - 1) xs) (drop (n - 1 + 1) xs) in
    omega arith
