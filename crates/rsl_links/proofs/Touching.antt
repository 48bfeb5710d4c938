-- The places that links take, where one opens, or an alive touches one.
use Rattle.std.proofs.Common.{◌≡◌, ℕ, ◌+◌, ◌-◌, ◌<◌, ◌≤◌, List, [], ◌∷◌, ◌++◌, set, get_or, length, Bool, true, false, cond, not, refl, ap, sym, ◌∙◌, arith}
use Rattle.std.specs.Prelude.{Option, is_none}
use Rattle.std.specs.Int.{from_bool}
use Rattle.rsl_event.specs.declared.nas.Nas.{Nas}
use Rattle.rsl_session.specs.Places.{places_of}
use Rattle.rsl_session.specs.Book.{bundles_in}
use Rattle.rsl_links.specs.declared.link.Link.{Link}
use Rattle.rsl_links.specs.First.{change_at}
use Rattle.rsl_links.specs.Seen.{link_seen, links_seen, server_at, bundle_with}
use Rattle.rsl_links.specs.Changed.{touched_link}
use Rattle.rsl_links.proofs.Found.{set_is_change}
use Rattle.rsl_links.proofs.Opened.{bundles-push, touched_alone, touched_bundled}

pub own_bundle : (servers : List Nas) (link : Link) → (link_seen servers link).bundle ≡ bundle_with (server_at servers link.nas) link.bundle
unfolding link_seen
own_bundle servers link = refl

pub counted_open : (servers : List Nas) (ports places new r : ℕ) (link : Link) (xs ys : List Link) → ys ≡ xs ++ link ∷ []
    → places ≡ places_of ports (bundles_in (links_seen servers xs))
    → places_of ports (bundles_in (links_seen servers xs) ++ bundle_with (server_at servers link.nas) link.bundle ∷ []) ≡ places_of ports (bundles_in (links_seen servers xs)) + r
    → new ≡ places + r → new ≡ places_of ports (bundles_in (links_seen servers ys))
counted_open servers ports places new r link xs ys is counted added sum =
    let all : bundles_in (links_seen servers ys) ≡ bundles_in (links_seen servers xs) ++ bundle_with (server_at servers link.nas) link.bundle ∷ [] =
    ap (λ zs. bundles_in (links_seen servers zs)) is ∙ bundles-push servers link xs ∙ ap (λ b. bundles_in (links_seen servers xs) ++ b ∷ []) (own_bundle servers link) in
    sum ∙ ap (λ n. n + r) counted ∙ sym added ∙ ap (places_of ports) (sym all)

pub joins_bundled : (servers : List Nas) (ports now : ℕ) (bundle station : Option (List ℕ)) (xs : List Link) (at : ℕ) (x : Link) → at < length xs → x ≡ get_or xs at x → is_none x.bundle ≡ false
    → places_of ports (bundles_in (links_seen servers (change_at at (touched_link now bundle station) xs))) + 0 ≡ places_of ports (bundles_in (links_seen servers xs))
joins_bundled servers ports now bundle station xs at x within is has =
    let same : bundles_in (links_seen servers (change_at at (touched_link now bundle station) xs)) ≡ bundles_in (links_seen servers xs) =
    ap (λ ys. bundles_in (links_seen servers ys)) (sym (set_is_change (touched_link now bundle station) xs at x (touched_link now bundle station x) within is refl)) ∙ touched_bundled servers now bundle station xs at x within is has in
    let equal = ap (places_of ports) same in
    omega arith

pub joins_alone : (servers : List Nas) (ports now : ℕ) (bundle station : Option (List ℕ)) (xs : List Link) (at : ℕ) (x : Link) (adds : Bool) → 0 < ports → at < length xs → x ≡ get_or xs at x → is_none x.bundle ≡ true
    → places_of ports (bundles_in (links_seen servers xs) ++ bundle_with (server_at servers x.nas) bundle ∷ []) ≡ places_of ports (bundles_in (links_seen servers xs)) + cond adds 1 0
    → places_of ports (bundles_in (links_seen servers (change_at at (touched_link now bundle station) xs))) + cond (not adds) 1 0 ≡ places_of ports (bundles_in (links_seen servers xs))
joins_alone servers ports now bundle station xs at x adds some within is none added =
    let more = touched_alone servers ports (places_of ports (bundles_in (links_seen servers xs))) (cond adds 1 0) now bundle station xs at x some within is none refl added in
    let same : places_of ports (bundles_in (links_seen servers (change_at at (touched_link now bundle station) xs))) ≡ places_of ports (bundles_in (links_seen servers (set xs at (touched_link now bundle station x)))) =
    ap (λ ys. places_of ports (bundles_in (links_seen servers ys))) (sym (set_is_change (touched_link now bundle station) xs at x (touched_link now bundle station x) within is refl)) in
    by_cases adds same more where
      by_cases : (b : Bool) {new old all : ℕ} → new ≡ old → old + 1 ≡ all + cond b 1 0 → new + cond (not b) 1 0 ≡ all
      by_cases true e m = omega (arith, e, m)
      by_cases false e m = omega (arith, e, m)

pub joined_within : (b : Bool) (places new old : ℕ) → places ≡ old → new + cond b 1 0 ≡ old → cond b 1 0 ≤ places
joined_within true places new old is sum = omega arith
joined_within false places new old is sum = omega arith

pub joined_less : (b : Bool) (places new old : ℕ) → places ≡ old → new + cond b 1 0 ≡ old → places - cond b 1 0 ≡ new
joined_less true places new old is sum = omega arith
joined_less false places new old is sum = omega arith

-- what a test counts
pub one_of : (b : Bool) (n : ℕ) → n ≡ from_bool b → n ≡ cond b 1 0
one_of true n is = is
one_of false n is = is
