-- How many links are reserved, live and stale: as they are counted by orders, and as they are seen.
use Rattle.std.proofs.Common.{◌≡◌, ℕ, ◌+◌, ◌-◌, ◌<◌, ◌≤◌, List, [], ◌∷◌, map, Bool, true, false, cond, refl, ap, sym, ◌∙◌, arith, inl, inr}
use Rattle.std.specs.Prelude.{count_by, nat_le, nat_lt, ◌&&◌}
use Rattle.std.proofs.lemmas.Bool.{cases_lt, le-leb, le-ltb, lt-leb, lt-ltb}
use Rattle.std.proofs.lemmas.List.Sums.{sum_by-cons}
use Rattle.rsl_accounts.specs.Limits.{RulesFit}
use Rattle.rsl_accounts.specs.declared.rules.Rules.{Rules}
use Rattle.rsl_event.specs.declared.nas.Nas.{Nas}
use Rattle.rsl_session.specs.Book.{BookLink, is_bound, is_live_at, is_reservation, is_stale_at}
use Rattle.rsl_links.specs.declared.link.Link.{Link}
use Rattle.rsl_links.specs.declared.link.Holder.{Holder as LinkHolder}
use Rattle.rsl_links.specs.declared.link.Holder.TheVariants.{Reserved as LinkReserved, Bound as LinkBound}
use Rattle.rsl_links.specs.declared.order.OrderKind.TheVariants.{Reserved, Bound}
use Rattle.rsl_links.specs.LinkList.{is_bound_until}
use Rattle.rsl_links.specs.Order.{holds_number, holds_session, is_of}
use Rattle.rsl_links.specs.Seen.{holder_at, link_seen, links_seen, server_at}

count_seen : (servers : List Nas) (p : BookLink → Bool) (q : Link → Bool) → ((link : Link) → p (link_seen servers link) ≡ q link) → (links : List Link) → count_by p (links_seen servers links) ≡ count_by q links
unfolding links_seen
count_seen servers p q same [] = refl
count_seen servers p q same (link ∷ links) =
    sum_by-cons (λ one. cond (p one) 1 0) (link_seen servers link) (map (link_seen servers) links)
    ∙ ap (λ b. cond b 1 0 + count_by p (map (link_seen servers) links)) (same link)
    ∙ ap (λ n. cond (q link) 1 0 + n) (count_seen servers p q same links)
    ∙ sym (sum_by-cons (λ one. cond (q one) 1 0) link links)

count_parts : (p q r : BookLink → Bool) → ((link : BookLink) → cond (p link) 1 0 + cond (q link) 1 0 ≡ cond (r link) 1 0) → (links : List BookLink) → count_by p links + count_by q links ≡ count_by r links
count_parts p q r each [] = refl
count_parts p q r each (link ∷ links) =
    let one = sum_by-cons (λ one. cond (p one) 1 0) link links in
    let two = sum_by-cons (λ one. cond (q one) 1 0) link links in
    let all = sum_by-cons (λ one. cond (r one) 1 0) link links in
    let here = each link in
    let rest = count_parts p q r each links in
    omega (arith, one, two, all, here, rest)

count_none : (p : BookLink → Bool) → ((link : BookLink) → p link ≡ false) → (links : List BookLink) → count_by p links ≡ 0
count_none p none [] = refl
count_none p none (link ∷ links) =
    sum_by-cons (λ one. cond (p one) 1 0) link links ∙ rw (none link) (let rest = count_none p none links in omega (arith, rest))

pub reserved_tally : (links : List Link) (count : ℕ) → count ≡ count_by (is_of Reserved) links → (servers : List Nas) → count ≡ count_by (λ (link : BookLink). is_reservation link.holder) (links_seen servers links)
unfolding link_seen
reserved_tally links count counted servers = counted ∙ sym (count_seen servers (λ (link : BookLink). is_reservation link.holder) (is_of Reserved) (λ link. by_holder (server_at servers link.nas) link.holder) links) where
  by_holder : (nas : Nas) (holder : LinkHolder) → is_reservation (holder_at nas holder) ≡ holds_number holder
  by_holder nas (LinkReserved number) = refl
  by_holder nas (LinkBound id) = refl

bound_tally : (servers : List Nas) (links : List Link) → count_by (λ (link : BookLink). is_bound link.holder) (links_seen servers links) ≡ count_by (is_of Bound) links
unfolding link_seen
bound_tally servers links = count_seen servers (λ (link : BookLink). is_bound link.holder) (is_of Bound) (λ link. by_holder (server_at servers link.nas) link.holder) links where
  by_holder : (nas : Nas) (holder : LinkHolder) → is_bound (holder_at nas holder) ≡ holds_session holder
  by_holder nas (LinkReserved number) = refl
  by_holder nas (LinkBound id) = refl

-- a bound link is live or stale
live_and_stale : (rules : Rules) (now : ℕ) (servers : List Nas) (links : List Link)
    → count_by (is_live_at rules now) (links_seen servers links) + count_by (is_stale_at rules now) (links_seen servers links) ≡ count_by (is_of Bound) links
unfolding is_live_at is_stale_at
live_and_stale rules now servers links =
    count_parts (is_live_at rules now) (is_stale_at rules now) (λ (link : BookLink). is_bound link.holder) (λ link. each (is_bound link.holder) (now - link.touched)) (links_seen servers links)
    ∙ bound_tally servers links
  where
    each : (bound : Bool) (silent : ℕ) → cond (bound && nat_lt silent rules.live) 1 0 + cond (bound && nat_le rules.live silent) 1 0 ≡ cond bound 1 0
    each false silent = refl
    each true silent = elim (cases_lt silent rules.live) [
      | inl low ↦ rw (lt-ltb silent rules.live low, lt-leb rules.live silent low) refl
      | inr high ↦ rw (le-ltb silent rules.live high, le-leb rules.live silent high) refl
    ]

pub live_tally : (rules : Rules) (now : ℕ) (links : List Link) (bound stale : ℕ) → bound ≡ count_by (is_of Bound) links → ((servers : List Nas) → stale ≡ count_by (is_stale_at rules now) (links_seen servers links))
    → (servers : List Nas) → bound - stale ≡ count_by (is_live_at rules now) (links_seen servers links)
live_tally rules now links bound stale all silent servers =
    let both = live_and_stale rules now servers links in
    let some = silent servers in
    omega (arith, both, some, all)

pub fewer_stale : (rules : Rules) (now : ℕ) (links : List Link) (bound stale : ℕ) → bound ≡ count_by (is_of Bound) links → ((servers : List Nas) → stale ≡ count_by (is_stale_at rules now) (links_seen servers links)) → stale ≤ bound
fewer_stale rules now links bound stale all silent =
    let both = live_and_stale rules now [] links in
    let some = silent [] in
    omega (arith, both, some, all)

-- a stale link was touched as long ago as a session may be silent
pub stale_tally : (rules : Rules) (now : ℕ) (links : List Link) (count : ℕ) → RulesFit rules → rules.live ≤ now → count ≡ count_by (is_bound_until (now - rules.live)) links
    → (servers : List Nas) → count ≡ count_by (is_stale_at rules now) (links_seen servers links)
unfolding is_stale_at is_bound_until link_seen
stale_tally rules now links count fit past counted servers =
    counted ∙ sym (count_seen servers (is_stale_at rules now) (is_bound_until (now - rules.live)) (λ link. by_holder (server_at servers link.nas) link.touched link.holder) links)
  where
    some : 1 ≤ rules.live
    some = fit.live.some

    by_holder : (nas : Nas) (touched : ℕ) (holder : LinkHolder) → (is_bound (holder_at nas holder) && nat_le rules.live (now - touched)) ≡ (holds_session holder && nat_le touched (now - rules.live))
    by_holder nas touched (LinkReserved number) = refl
    by_holder nas touched (LinkBound id) = elim (cases_lt (now - touched) rules.live) [
      | inl low ↦ lt-leb rules.live (now - touched) low ∙ sym (lt-leb touched (now - rules.live) (omega (arith, low, some, past)))
      | inr high ↦ le-leb rules.live (now - touched) high ∙ sym (le-leb touched (now - rules.live) (omega (arith, high, some, past)))
    ]

pub none_stale : (rules : Rules) (now : ℕ) (links : List Link) → now < rules.live → (servers : List Nas) → 0 ≡ count_by (is_stale_at rules now) (links_seen servers links)
unfolding is_stale_at
none_stale rules now links early servers =
    sym (count_none (is_stale_at rules now) (λ link. by_cases (is_bound link.holder) link.touched) (links_seen servers links))
  where
    by_cases : (bound : Bool) (touched : ℕ) → (bound && nat_le rules.live (now - touched)) ≡ false
    by_cases false touched = refl
    by_cases true touched = lt-leb rules.live (now - touched) (omega (arith, early))

pub ruleset tallied = (reserved_tally, live_tally, fewer_stale, stale_tally, none_stale)
