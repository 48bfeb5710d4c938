-- The places that links take, where one of them opens or ends.
use Rattle.std.proofs.Common.{◌≡◌, ℕ, zero, suc, ◌+◌, ◌-◌, ◌*◌, ◌%◌, ◌/◌, ◌<◌, ◌≤◌, List, [], ◌∷◌, ◌++◌, take, drop, set, get_or, length, map, true, false, cond, refl, ap, sym, ◌∙◌, subst, inl, inr, arith, add-one, append-nil, append_assoc, nat_eq}
use Rattle.std.specs.Prelude.{Option, Some, None, count_by, is_none}
use Rattle.std.specs.Option.{option_or}
use Rattle.std.specs.Int.{div_ceil}
use Rattle.std.proofs.lemmas.Bool.{cases_lt, false≢true, ne_eqb}
use Rattle.std.proofs.lemmas.Grind.{div_ceil_times}
use Rattle.std.proofs.lemmas.List.{drop_more, map-append, take-append-drop, set_split, length-map}
use Rattle.std.proofs.lemmas.List.Sums.{sum_by-cons, sum_by-append}
use Rattle.std.proofs.lemmas.Nat.{div-add-mod'}
use Rattle.std.proofs.Math.Nat.{mul-le-mul_right, mod-lt}
use Rattle.rsl_event.specs.declared.nas.Nas.{Nas}
use Rattle.rsl_session.specs.declared.bundle.Bundle.{Bundle}
use Rattle.rsl_session.specs.Same.{same_bundle}
use Rattle.rsl_session.specs.Places.{places_of, is_bundle}
use Rattle.rsl_session.specs.Book.{BookLink, bundles_in}
use Rattle.rsl_session.proofs.Callers.{same_bundle-refl, places_of_front, places_of_alone, places_of-Some}
use Rattle.rsl_links.specs.declared.link.Link.{Link}
use Rattle.rsl_links.specs.Seen.{link_seen, links_seen, server_at, bundle_with}
use Rattle.rsl_links.specs.First.{change_at}
use Rattle.rsl_links.specs.Changed.{taken_link, touched_link}

-- a share that is less than one more is at most as much
no_more : (a b p : ℕ) → a * p < suc b * p → a ≤ b
no_more a b p less =
    elim (cases_lt b a) [
      | inl more ↦ absurd (let h : suc b * p ≤ a * p = mul-le-mul_right p more in omega arith)
      | inr fine ↦ omega arith
    ]

same_share : (a b p : ℕ) → a * p < suc b * p → b * p < suc a * p → a ≡ b
same_share a b p one other = let left = no_more a b p one in let right = no_more b a p other in omega arith

-- one link more of a bundle takes a place more where the others fill theirs
full_share : (m p d q s : ℕ) → 0 < p → m ≡ d * p → m ≤ q * p → q * p < m + p → m + 1 ≤ s * p → s * p < m + 1 + p → s ≡ q + 1
full_share m p d q s some is a b c e =
    let old : q ≡ d = same_share q d p (omega arith) (omega arith) in
    let new : s ≡ suc d = same_share s (suc d) p (omega arith) (omega arith) in
    omega arith

part_share : (m p d r q s : ℕ) → 0 < r → r < p → d * p + r ≡ m → m ≤ q * p → q * p < m + p → m + 1 ≤ s * p → s * p < m + 1 + p → s ≡ q
part_share m p d r q s some less is a b c e =
    let old : q ≡ suc d = same_share q (suc d) p (omega arith) (omega arith) in
    let new : s ≡ suc d = same_share s (suc d) p (omega arith) (omega arith) in
    omega arith

plus_none : (n : ℕ) → n ≡ n + 0
plus_none n = omega arith

pub share_more : (m p : ℕ) → 0 < p → div_ceil (m + 1) p ≡ div_ceil m p + (cond (nat_eq (m % p) 0) 1 0)
share_more m p some =
    let whole = div-add-mod' m p in
    let short : m % p < p = mod-lt m some in
    let old = div_ceil_times m p some in
    let new = div_ceil_times (m + 1) p some in
    by_cases (m % p) whole short old new where
      by_cases : (r : ℕ) → m / p * p + r ≡ m → r < p → (m ≤ div_ceil m p * p) × (div_ceil m p * p < m + p) → (m + 1 ≤ div_ceil (m + 1) p * p) × (div_ceil (m + 1) p * p < m + 1 + p)
          → div_ceil (m + 1) p ≡ div_ceil m p + (cond (nat_eq r 0) 1 0)
      by_cases zero whole short old new = full_share m p (m / p) (div_ceil m p) (div_ceil (m + 1) p) some (omega arith) old.0 old.1 new.0 new.1
      by_cases (suc r) whole short old new = part_share m p (m / p) (suc r) (div_ceil m p) (div_ceil (m + 1) p) (omega arith) short whole old.0 old.1 new.0 new.1 ∙ plus_none (div_ceil m p) ∙ ap (λ b. div_ceil m p + cond b 1 0) (sym (ne_eqb (suc r) 0 (λ (e : suc r ≡ 0). omega (arith, e))))

-- a link more
pub more_alone : (ports : ℕ) (xs : List (Option Bundle)) → 0 < ports → places_of ports (xs ++ None ∷ []) ≡ places_of ports xs + 1
more_alone ports xs some = places_of_alone ports xs [] some ∙ ap (λ ys. places_of ports ys + 1) (append-nil xs)

add_share : (new old a b n : ℕ) → new ≡ old + (a - b) → a ≡ b + n → new ≡ old + n
add_share new old a b n is grown = omega arith

pub more_bundled : (ports m n : ℕ) (bundle : Bundle) (xs : List (Option Bundle)) → 0 < ports → m ≡ count_by (is_bundle bundle) xs → div_ceil (m + 1) ports ≡ div_ceil m ports + n
    → places_of ports (xs ++ Some bundle ∷ []) ≡ places_of ports xs + n
more_bundled ports m n bundle xs some is grown =
    places_of_front ports (Some bundle) xs [] some ∙ ap (λ ys. places_of ports (Some bundle ∷ ys)) (append-nil xs)
    ∙ add_share (places_of ports (Some bundle ∷ xs)) (places_of ports xs) (div_ceil (suc (count_by (is_bundle bundle) xs)) ports) (div_ceil (count_by (is_bundle bundle) xs) ports) n
    (places_of-Some ports bundle xs some) (rw add-one at (subst (λ k. div_ceil (k + 1) ports ≡ div_ceil k ports + n) is grown))

-- a link less
pub less_alone : (ports : ℕ) (x : Option Bundle) (xs ys whole : List (Option Bundle)) → 0 < ports → whole ≡ xs ++ x ∷ ys → x ≡ None → places_of ports whole ≡ places_of ports (xs ++ ys) + 1
less_alone ports x xs ys whole some is none = rw (is, none) (places_of_alone ports xs ys some)

split_sum : (whole left here rest right one : ℕ) → whole ≡ left + here → here ≡ one + right → rest ≡ left + right → one ≡ 1 → whole ≡ rest + 1
split_sum whole left here rest right one a b c d = omega arith

members-split : (bundle : Bundle) (xs ys : List (Option Bundle)) → count_by (is_bundle bundle) (xs ++ Some bundle ∷ ys) ≡ count_by (is_bundle bundle) (xs ++ ys) + 1
members-split bundle xs ys =
    let whole : count_by (is_bundle bundle) (xs ++ Some bundle ∷ ys) ≡ count_by (is_bundle bundle) xs + count_by (is_bundle bundle) (Some bundle ∷ ys) =
    sum_by-append (λ x. cond (is_bundle bundle x) 1 0) xs (Some bundle ∷ ys) in
    let here : count_by (is_bundle bundle) (Some bundle ∷ ys) ≡ cond (same_bundle bundle bundle) 1 0 + count_by (is_bundle bundle) ys =
    sum_by-cons (λ x. cond (is_bundle bundle x) 1 0) (Some bundle) ys in
    let rest : count_by (is_bundle bundle) (xs ++ ys) ≡ count_by (is_bundle bundle) xs + count_by (is_bundle bundle) ys =
    sum_by-append (λ x. cond (is_bundle bundle x) 1 0) xs ys in
    let one : cond (same_bundle bundle bundle) 1 0 ≡ 1 = rw (same_bundle-refl bundle) refl in
    split_sum (count_by (is_bundle bundle) (xs ++ Some bundle ∷ ys)) (count_by (is_bundle bundle) xs) (count_by (is_bundle bundle) (Some bundle ∷ ys))
    (count_by (is_bundle bundle) (xs ++ ys)) (count_by (is_bundle bundle) ys) (cond (same_bundle bundle bundle) 1 0) whole here rest one

pub less_bundled : (ports m n : ℕ) (x : Option Bundle) (bundle : Bundle) (xs ys whole : List (Option Bundle)) → 0 < ports → whole ≡ xs ++ x ∷ ys → x ≡ Some bundle
    → m ≡ count_by (is_bundle bundle) whole → div_ceil (m - 1 + 1) ports ≡ div_ceil (m - 1) ports + n
    → places_of ports whole ≡ places_of ports (xs ++ ys) + n
less_bundled ports m n x bundle xs ys whole some is bundled counted grown =
    let split : whole ≡ xs ++ Some bundle ∷ ys = is ∙ ap (λ y. xs ++ y ∷ ys) bundled in
    let one_more : m ≡ count_by (is_bundle bundle) (xs ++ ys) + 1 = counted ∙ ap (count_by (is_bundle bundle)) split ∙ members-split bundle xs ys in
    let others : m - 1 ≡ count_by (is_bundle bundle) (xs ++ ys) = omega arith in
    ap (places_of ports) split ∙ places_of_front ports (Some bundle) xs ys some
    ∙ add_share (places_of ports (Some bundle ∷ xs ++ ys)) (places_of ports (xs ++ ys)) (div_ceil (suc (count_by (is_bundle bundle) (xs ++ ys))) ports) (div_ceil (count_by (is_bundle bundle) (xs ++ ys)) ports) n
    (places_of-Some ports bundle (xs ++ ys) some) (rw add-one at (subst (λ k. div_ceil (k + 1) ports ≡ div_ceil k ports + n) others grown))

pub members_some : (m : ℕ) (x : Option Bundle) (bundle : Bundle) (xs ys whole : List (Option Bundle)) → whole ≡ xs ++ x ∷ ys → x ≡ Some bundle
    → m ≡ count_by (is_bundle bundle) whole → 1 ≤ m
members_some m x bundle xs ys whole is bundled counted =
    let split : whole ≡ xs ++ Some bundle ∷ ys = is ∙ ap (λ y. xs ++ y ∷ ys) bundled in
    let one_more : m ≡ count_by (is_bundle bundle) (xs ++ ys) + 1 = counted ∙ ap (count_by (is_bundle bundle)) split ∙ members-split bundle xs ys in
    omega arith

pub bundle_none : (servers : List Nas) (link : Link) → link.bundle ≡ None → (link_seen servers link).bundle ≡ None
unfolding link_seen
bundle_none servers link is = rw is refl

pub bundle_some : (servers : List Nas) (link : Link) (id : List ℕ) → link.bundle ≡ Some id → (link_seen servers link).bundle ≡ Some (record { nas = server_at servers link.nas; id = id })
unfolding link_seen
bundle_some servers link id is = rw is refl

-- the bundles of links that are put together, and of those beside one
pub bundles-append : (servers : List Nas) (xs ys : List Link) → bundles_in (links_seen servers (xs ++ ys)) ≡ bundles_in (links_seen servers xs) ++ bundles_in (links_seen servers ys)
unfolding bundles_in links_seen
bundles-append servers xs ys = ap (map (λ (link : BookLink). link.bundle)) (map-append (link_seen servers) xs ys) ∙ map-append (λ (link : BookLink). link.bundle) (map (link_seen servers) xs) (map (link_seen servers) ys)

pub bundles-cons : (servers : List Nas) (x : Link) (xs : List Link) → bundles_in (links_seen servers (x ∷ xs)) ≡ (link_seen servers x).bundle ∷ bundles_in (links_seen servers xs)
unfolding bundles_in links_seen
bundles-cons servers x xs = refl

pub bundles-push : (servers : List Nas) (x : Link) (xs : List Link) → bundles_in (links_seen servers (xs ++ x ∷ [])) ≡ bundles_in (links_seen servers xs) ++ (link_seen servers x).bundle ∷ []
unfolding bundles_in links_seen
bundles-push servers x xs = bundles-append servers xs (x ∷ [])

pub bundles-split : (servers : List Nas) (xs : List Link) (i : ℕ) (x : Link) → i < length xs → x ≡ get_or xs i x
    → bundles_in (links_seen servers xs) ≡ bundles_in (links_seen servers (take i xs)) ++ (link_seen servers x).bundle ∷ bundles_in (links_seen servers (drop (i + 1) xs))
bundles-split servers xs i x within is =
    let parts : xs ≡ take i xs ++ x ∷ drop (i + 1) xs = sym (take-append-drop i xs) ∙ ap (λ ys. take i xs ++ ys) (drop_more xs i x within ∙ ap (λ y. y ∷ drop (i + 1) xs) (sym is)) in
    ap (λ ys. bundles_in (links_seen servers ys)) parts ∙ bundles-append servers (take i xs) (x ∷ drop (i + 1) xs)
    ∙ ap (λ ys. bundles_in (links_seen servers (take i xs)) ++ ys) (bundles-cons servers x (drop (i + 1) xs))

-- a link that had no bundle joins one
pub places_joined : (ports r : ℕ) (b : Option Bundle) (xs ys : List (Option Bundle)) → 0 < ports → places_of ports ((xs ++ None ∷ ys) ++ b ∷ []) ≡ places_of ports (xs ++ None ∷ ys) + r
    → places_of ports (xs ++ b ∷ ys) + 1 ≡ places_of ports (xs ++ None ∷ ys) + r
places_joined ports r b xs ys some is =
    let apart : places_of ports ((xs ++ None ∷ ys) ++ b ∷ []) ≡ places_of ports (xs ++ (ys ++ b ∷ [])) + 1 =
    ap (places_of ports) (append_assoc xs (None ∷ ys) (b ∷ [])) ∙ places_of_alone ports xs (ys ++ b ∷ []) some in
    let last : places_of ports (xs ++ (ys ++ b ∷ [])) ≡ places_of ports (b ∷ xs ++ ys) =
    ap (places_of ports) (sym (append_assoc xs ys (b ∷ []))) ∙ places_of_front ports b (xs ++ ys) [] some ∙ ap (λ zs. places_of ports (b ∷ zs)) (append-nil (xs ++ ys)) in
    let front : places_of ports (xs ++ b ∷ ys) ≡ places_of ports (b ∷ xs ++ ys) = places_of_front ports b xs ys some in
    omega arith

-- two changes of a link that give it one bundle give the links the same bundles, as being taken and being touched do
bundles_alike : (servers : List Nas) (f g : Link → Link) (xs : List Link) (at : ℕ) → ((x : Link) → (link_seen servers (f x)).bundle ≡ (link_seen servers (g x)).bundle)
    → bundles_in (links_seen servers (change_at at f xs)) ≡ bundles_in (links_seen servers (change_at at g xs))
unfolding bundles_in links_seen change_at
bundles_alike servers f g [] at same = refl
bundles_alike servers f g (x ∷ xs) zero same = ap (λ b. b ∷ map (λ (link : BookLink). link.bundle) (map (link_seen servers) xs)) (same x)
bundles_alike servers f g (x ∷ xs) (suc at) same = ap (λ bs. (link_seen servers x).bundle ∷ bs) (bundles_alike servers f g xs at same)

taken_bundle : (servers : List Nas) (now : ℕ) (id : List ℕ) (bundle station : Option (List ℕ)) (link : Link) → (link_seen servers (taken_link now id bundle station link)).bundle ≡ (link_seen servers (touched_link now bundle station link)).bundle
unfolding link_seen taken_link touched_link
taken_bundle servers now id bundle station link = refl

pub bundles_taken : (servers : List Nas) (now : ℕ) (id : List ℕ) (bundle station : Option (List ℕ)) (xs : List Link) (at : ℕ)
    → bundles_in (links_seen servers (change_at at (taken_link now id bundle station) xs)) ≡ bundles_in (links_seen servers (change_at at (touched_link now bundle station) xs))
bundles_taken servers now id bundle station xs at = bundles_alike servers (taken_link now id bundle station) (touched_link now bundle station) xs at (taken_bundle servers now id bundle station)

-- a link that is touched keeps its bundle, if it has one
or_some : (old new : Option Bundle) → is_none old ≡ false → option_or old new ≡ old
or_some None new has = absurd (false≢true (sym has))
or_some (Some bundle) new has = refl

or_none : (old new : Option Bundle) → is_none old ≡ true → option_or old new ≡ new
or_none None new has = refl
or_none (Some bundle) new has = absurd (false≢true has)

none_is : (old : Option Bundle) → is_none old ≡ true → old ≡ None
none_is None has = refl
none_is (Some bundle) has = absurd (false≢true has)

touched_bundle : (servers : List Nas) (now : ℕ) (bundle station : Option (List ℕ)) (link : Link) → (link_seen servers (touched_link now bundle station link)).bundle ≡ option_or (link_seen servers link).bundle (bundle_with (server_at servers link.nas) bundle)
unfolding link_seen touched_link
touched_bundle servers now bundle station link = by_cases (server_at servers link.nas) link.bundle where
  by_cases : (nas : Nas) (old : Option (List ℕ)) → bundle_with nas (option_or old bundle) ≡ option_or (bundle_with nas old) (bundle_with nas bundle)
  by_cases nas None = refl
  by_cases nas (Some id) = refl

seen_none : (servers : List Nas) (link : Link) → is_none (link_seen servers link).bundle ≡ is_none link.bundle
unfolding link_seen
seen_none servers link = by_cases (server_at servers link.nas) link.bundle where
  by_cases : (nas : Nas) (old : Option (List ℕ)) → is_none (bundle_with nas old) ≡ is_none old
  by_cases nas None = refl
  by_cases nas (Some id) = refl

pub touched_alone : (servers : List Nas) (ports places r now : ℕ) (bundle station : Option (List ℕ)) (xs : List Link) (at : ℕ) (x : Link) → 0 < ports → at < length xs → x ≡ get_or xs at x → is_none x.bundle ≡ true
    → places ≡ places_of ports (bundles_in (links_seen servers xs))
    → places_of ports (bundles_in (links_seen servers xs) ++ bundle_with (server_at servers x.nas) bundle ∷ []) ≡ places_of ports (bundles_in (links_seen servers xs)) + r
    → places_of ports (bundles_in (links_seen servers (set xs at (touched_link now bundle station x)))) + 1 ≡ places + r
touched_alone servers ports places r now bundle station xs at x some within is none counted added =
    let before = bundles_in (links_seen servers (take at xs)) in
    let behind = bundles_in (links_seen servers (drop (at + 1) xs)) in
    let joined = bundle_with (server_at servers x.nas) bundle in
    let empty : (link_seen servers x).bundle ≡ None = none_is (link_seen servers x).bundle (seen_none servers x ∙ none) in
    let whole : bundles_in (links_seen servers xs) ≡ before ++ None ∷ behind = bundles-split servers xs at x within is ∙ ap (λ (b : Option Bundle). before ++ b ∷ behind) empty in
    let now_in : (link_seen servers (touched_link now bundle station x)).bundle ≡ joined = touched_bundle servers now bundle station x ∙ ap (λ (b : Option Bundle). option_or b joined) empty in
    let after : bundles_in (links_seen servers (set xs at (touched_link now bundle station x))) ≡ before ++ joined ∷ behind =
    ap (λ ys. bundles_in (links_seen servers ys)) (set_split xs at (touched_link now bundle station x) within ∙ ap (λ ys. take at xs ++ touched_link now bundle station x ∷ ys) (rw add-one refl))
    ∙ bundles-append servers (take at xs) (touched_link now bundle station x ∷ drop (at + 1) xs)
    ∙ ap (λ ys. before ++ ys) (bundles-cons servers (touched_link now bundle station x) (drop (at + 1) xs))
    ∙ ap (λ (b : Option Bundle). before ++ b ∷ behind) now_in in
    let more : places_of ports ((before ++ None ∷ behind) ++ joined ∷ []) ≡ places_of ports (before ++ None ∷ behind) + r =
    subst (λ bs. places_of ports (bs ++ joined ∷ []) ≡ places_of ports bs + r) whole added in
    let result = places_joined ports r joined before behind some more in
    ap (λ bs. places_of ports bs + 1) after ∙ result ∙ ap (λ n. n + r) (ap (places_of ports) (sym whole) ∙ sym counted)

pub touched_bundled : (servers : List Nas) (now : ℕ) (bundle station : Option (List ℕ)) (xs : List Link) (at : ℕ) (x : Link) → at < length xs → x ≡ get_or xs at x → is_none x.bundle ≡ false
    → bundles_in (links_seen servers (set xs at (touched_link now bundle station x))) ≡ bundles_in (links_seen servers xs)
touched_bundled servers now bundle station xs at x within is has =
    let before = bundles_in (links_seen servers (take at xs)) in
    let behind = bundles_in (links_seen servers (drop (at + 1) xs)) in
    let same : (link_seen servers (touched_link now bundle station x)).bundle ≡ (link_seen servers x).bundle =
    touched_bundle servers now bundle station x ∙ or_some (link_seen servers x).bundle (bundle_with (server_at servers x.nas) bundle) (seen_none servers x ∙ has) in
    ap (λ ys. bundles_in (links_seen servers ys)) (set_split xs at (touched_link now bundle station x) within ∙ ap (λ ys. take at xs ++ touched_link now bundle station x ∷ ys) (rw add-one refl))
    ∙ bundles-append servers (take at xs) (touched_link now bundle station x ∷ drop (at + 1) xs)
    ∙ ap (λ ys. before ++ ys) (bundles-cons servers (touched_link now bundle station x) (drop (at + 1) xs))
    ∙ ap (λ (b : Option Bundle). before ++ b ∷ behind) same ∙ sym (bundles-split servers xs at x within is)

-- the links are at most the places of the limit with their ports
pub length-bundles : (servers : List Nas) (xs : List Link) → length (bundles_in (links_seen servers xs)) ≡ length xs
unfolding bundles_in links_seen
length-bundles servers xs = length-map (map (link_seen servers) xs) (λ (link : BookLink). link.bundle) ∙ length-map xs (link_seen servers)
