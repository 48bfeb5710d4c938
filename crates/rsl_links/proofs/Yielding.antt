-- The links that lapse, and the one that yields, found by what the first of an order tells.
use Rattle.std.proofs.Common.{◌≡◌, ℕ, zero, suc, ◌+◌, ◌-◌, ◌<◌, ◌≤◌, List, [], ◌∷◌, ◌++◌, take, drop, get_or, length, length-append, length-drop, Bool, true, false, cond, not, refl, ap, sym, ◌∙◌, subst, arith, add-one, inl, inr}
use Rattle.std.specs.Prelude.{Option, filter, find, nat_le, None, Some}
use Rattle.std.proofs.lemmas.Option.{none-some}
use Rattle.std.specs.List.{list_any, list_all}
use Rattle.std.proofs.lemmas.Bool.{false≢true, and_parts, and_from, or_parts, cases_lt, lt-leb, le-leb}
use Rattle.std.proofs.lemmas.List.{get_or-map, length-map, length-take-le}
use Rattle.rsl_accounts.specs.declared.rules.Rules.{Rules}
use Rattle.rsl_event.specs.declared.nas.Nas.{Nas}
use Rattle.rsl_session.specs.Book.{BookLink, is_bound, is_stale_at}
use Rattle.rsl_session.specs.BookLinks.{can_return, can_yield, is_oldest, is_stationed, lapses_at}
use Rattle.rsl_session.specs.Station.{same_station}
use Rattle.rsl_links.specs.declared.link.Link.{Link}
use Rattle.rsl_links.specs.declared.link.Holder.{Holder as LinkHolder}
use Rattle.rsl_links.specs.declared.link.Holder.TheVariants.{Reserved as LinkReserved, Bound as LinkBound}
use Rattle.rsl_links.specs.declared.links.Links.{Links}
use Rattle.rsl_links.specs.declared.order.OrderKind.TheVariants.{Bound}
use Rattle.rsl_links.specs.Counted.{AreCounted}
use Rattle.rsl_links.specs.First.{IsFirst}
use Rattle.rsl_links.specs.LinkList.{IsOldest, has_octets, is_of_station}
use Rattle.rsl_links.specs.Order.{holds_session, is_of, link_at, no_link}
use Rattle.rsl_links.specs.Seen.{holder_at, link_seen, links_seen, server_at}
use Rattle.rsl_links.proofs.Lists.{find_none}
use Rattle.rsl_links.proofs.Stepping.{seen_without}
use Rattle.rsl_links.specs.Steps.{without_at}

module _ {B : Type 0} where
  filter_less : (keep : B → Bool) (xs : List B) (at : ℕ) → at < length xs → ((d : B) → keep (get_or xs at d) ≡ false) → filter keep (take at xs ++ drop (suc at) xs) ≡ filter keep xs
  filter_less keep [] at within gone = absurd (omega (arith, within))
  filter_less keep (x ∷ xs) zero within gone = rw (gone x) refl
  filter_less keep (x ∷ xs) (suc at) within gone = ap (λ ys. cond (keep x) (x ∷ ys) ys) (filter_less keep xs at (omega (arith, within)) gone)

  filter_same : (keep : B → Bool) (xs : List B) → ((i : ℕ) (d : B) → i < length xs → keep (get_or xs i d) ≡ true) → filter keep xs ≡ xs
  filter_same keep [] all = refl
  filter_same keep (x ∷ xs) all = rw (all zero x (omega arith)) (ap (λ ys. x ∷ ys) (filter_same keep xs (λ i d within. all (suc i) d (omega (arith, within)))))

  pub any_none : (p : B → Bool) (xs : List B) (n : ℕ) → ((i : ℕ) (d : B) → i < n → i < length xs → p (get_or xs i d) ≡ false) → list_any p (take n xs) ≡ false
  any_none p xs zero none = refl
  any_none p [] (suc n) none = refl
  any_none p (x ∷ xs) (suc n) none = rw (none zero x (omega arith) (omega arith)) (any_none p xs n (λ i d low within. none (suc i) d (omega (arith, low)) (omega (arith, within))))

  pub any_nowhere : (p : B → Bool) (xs : List B) → ((i : ℕ) (d : B) → i < length xs → p (get_or xs i d) ≡ false) → list_any p xs ≡ false
  any_nowhere p [] none = refl
  any_nowhere p (x ∷ xs) none = rw (none zero x (omega arith)) (any_nowhere p xs (λ i d within. none (suc i) d (omega (arith, within))))

  all_of : (q t : B → Bool) (xs : List B) → ((i : ℕ) (d : B) → i < length xs → t (get_or xs i d) ≡ true → q (get_or xs i d) ≡ true) → list_all q (filter t xs) ≡ true
  all_of q t [] each = refl
  all_of q t (x ∷ xs) each = by_cases (t x) refl (all_of q t xs (λ i d within. each (suc i) d (omega (arith, within)))) where
    by_cases : (b : Bool) → t x ≡ b → list_all q (filter t xs) ≡ true → list_all q (cond b (x ∷ filter t xs) (filter t xs)) ≡ true
    by_cases true is rest = rw (each zero x (omega arith) is) rest
    by_cases false is rest = rest

  one_of : (q t : B → Bool) (xs : List B) (i : ℕ) (d : B) → list_all q (filter t xs) ≡ true → i < length xs → t (get_or xs i d) ≡ true → q (get_or xs i d) ≡ true
  one_of q t [] i d all within is = absurd (omega (arith, within))
  one_of q t (x ∷ xs) zero d all within is =
      (and_parts (q x) (list_all q (filter t xs)) (subst (λ b. list_all q (cond b (x ∷ filter t xs) (filter t xs)) ≡ true) is all)).0
  one_of q t (x ∷ xs) (suc i) d all within is = one_of q t xs i d (rest (t x) all) (omega (arith, within)) is where
    rest : (b : Bool) → list_all q (cond b (x ∷ filter t xs) (filter t xs)) ≡ true → list_all q (filter t xs) ≡ true
    rest true some = (and_parts (q x) (list_all q (filter t xs)) some).1
    rest false some = some

pub nowhere_among : (p : Link → Bool) (xs : List Link) (i : ℕ) → list_any p xs ≡ false → i < length xs → p (link_at xs i) ≡ false
nowhere_among p [] i none within = absurd (omega (arith, within))
nowhere_among p (x ∷ xs) zero none within = (or_parts (p x) (list_any p xs) none).0
nowhere_among p (x ∷ xs) (suc i) none within = nowhere_among p xs i (or_parts (p x) (list_any p xs) none).1 (omega (arith, within))

read_seen : (servers : List Nas) (links : List Link) (i : ℕ) (d : BookLink) → i < length links → get_or (links_seen servers links) i d ≡ link_seen servers (link_at links i)
unfolding links_seen
read_seen servers links i d within = get_or-map (link_seen servers) links i no_link d within

length_seen : (servers : List Nas) (links : List Link) → length (links_seen servers links) ≡ length links
unfolding links_seen
length_seen servers links = length-map links (link_seen servers)

-- a link that ends is taken out, and in the end there is none
pub ended_step : (servers : List Nas) (ends : BookLink → Bool) (links left : List Link) (at : ℕ) → at < length links → ((d : BookLink) → ends (get_or (links_seen servers links) at d) ≡ true) → left ≡ take at links ++ drop (at + 1) links
    → filter (λ (link : BookLink). not (ends link)) (links_seen servers left) ≡ filter (λ (link : BookLink). not (ends link)) (links_seen servers links)
unfolding without_at
ended_step servers ends links left at within passed is =
    let long = length_seen servers links in
    let gone = filter_less (λ (link : BookLink). not (ends link)) (links_seen servers links) at (omega (arith, within, long)) (λ d. ap not (passed d)) in
    ap (λ xs. filter (λ (link : BookLink). not (ends link)) (links_seen servers xs)) is
    ∙ ap (filter (λ (link : BookLink). not (ends link))) (seen_without servers links at)
    ∙ rw add-one gone

pub ended_all : {B : Type 0} (ends : B → Bool) (xs : List B) → find ends xs ≡ None → filter (λ x. not (ends x)) xs ≡ xs
ended_all ends [] none = refl
ended_all ends (x ∷ xs) none = by_cases (ends x) none (ended_all ends xs) where
  by_cases : (b : Bool) → cond b (Some x) (find ends xs) ≡ None → (find ends xs ≡ None → filter (λ y. not (ends y)) xs ≡ xs) → cond (not b) (x ∷ filter (λ y. not (ends y)) xs) (filter (λ y. not (ends y)) xs) ≡ x ∷ xs
  by_cases true none rest = absurd (none-some x (sym none))
  by_cases false none rest = ap (λ ys. x ∷ ys) (rest none)

pub fewer_found : (servers : List Nas) (ends : BookLink → Bool) (links : List Link) (at : ℕ) → IsFirst ends (links_seen servers links) at → at < length links
fewer_found servers ends links at first = let long = length_seen servers links in let front = first.within in omega (arith, long, front)

-- what is left of some links once those that end are taken out one by one
pub record AreLeft (ends : BookLink → Bool) (servers : List Nas) (old now : Links) : Type 0 where
  pub left : filter (λ (link : BookLink). not (ends link)) (links_seen servers now.list.items)
      ≡ filter (λ (link : BookLink). not (ends link)) (links_seen servers old.list.items)
  pub counted : AreCounted servers now
  pub fewer : now.places ≤ old.places
  pub ports : now.ports ≡ old.ports
  pub room : now.list.room ≡ old.list.room

pub one_less : {ends : BookLink → Bool} {servers : List Nas} {old now next : Links} → AreLeft ends servers old now
    → filter (λ (link : BookLink). not (ends link)) (links_seen servers next.list.items) ≡ filter (λ (link : BookLink). not (ends link)) (links_seen servers now.list.items)
    → AreCounted servers next → next.places ≤ now.places → next.ports ≡ now.ports → next.list.room ≡ now.list.room → AreLeft ends servers old next
one_less so_far left counted fewer ports room =
    record {
      left = left ∙ so_far.left;
      counted = counted;
      fewer = (let before = so_far.fewer in omega (arith, fewer, before));
      ports = ports ∙ so_far.ports;
      room = room ∙ so_far.room;
    }

-- a link that lapses is taken out, and in the end none does
pub lapse_step : (servers : List Nas) (rules : Rules) (now : ℕ) (links left : List Link) (at : ℕ) → at < length links → lapses_at rules now (link_seen servers (link_at links at)) ≡ true
    → left ≡ take at links ++ drop (at + 1) links
    → filter (λ (link : BookLink). not (lapses_at rules now link)) (links_seen servers left) ≡ filter (λ (link : BookLink). not (lapses_at rules now link)) (links_seen servers links)
lapse_step servers rules now links left at within lapses is =
    ended_step servers (lapses_at rules now) links left at within
    (λ d. ap (lapses_at rules now) (read_seen servers links at d within) ∙ lapses) is

pub lapse_end : (servers : List Nas) (rules : Rules) (now : ℕ) (links : List Link) → ((at : ℕ) → at < length links → lapses_at rules now (link_seen servers (link_at links at)) ≡ false)
    → filter (λ (link : BookLink). not (lapses_at rules now link)) (links_seen servers links) ≡ links_seen servers links
lapse_end servers rules now links none =
    let long = length_seen servers links in
    filter_same (λ (link : BookLink). not (lapses_at rules now link)) (links_seen servers links)
    (λ i d within. ap (λ (link : BookLink). not (lapses_at rules now link)) (read_seen servers links i d (omega (arith, within, long))) ∙ ap not (none i (omega (arith, within, long))))

-- stale links are bound
stale_parts : (servers : List Nas) (rules : Rules) (now : ℕ) (link : Link) → is_stale_at rules now (link_seen servers link) ≡ true → (holds_session link.holder ≡ true) × (nat_le rules.live (now - link.touched) ≡ true)
unfolding is_stale_at link_seen
stale_parts servers rules now link stale =
    let parts = and_parts (is_bound (holder_at (server_at servers link.nas) link.holder)) (nat_le rules.live (now - link.touched)) stale in
    (by_holder (server_at servers link.nas) link.holder parts.0, parts.1)
  where
    by_holder : (nas : Nas) (holder : LinkHolder) → is_bound (holder_at nas holder) ≡ true → holds_session holder ≡ true
    by_holder nas (LinkReserved number) is = is
    by_holder nas (LinkBound id) is = refl

stale_from : (servers : List Nas) (rules : Rules) (now : ℕ) (link : Link) → holds_session link.holder ≡ true → nat_le rules.live (now - link.touched) ≡ true → is_stale_at rules now (link_seen servers link) ≡ true
unfolding is_stale_at link_seen
stale_from servers rules now link bound old = and_from _ _ (by_holder (server_at servers link.nas) link.holder bound) old where
  by_holder : (nas : Nas) (holder : LinkHolder) → holds_session holder ≡ true → is_bound (holder_at nas holder) ≡ true
  by_holder nas (LinkReserved number) is = is
  by_holder nas (LinkBound id) is = refl

touched_seen : (servers : List Nas) (link : Link) → (link_seen servers link).touched ≡ link.touched
unfolding link_seen
touched_seen servers link = refl

-- of links that pass a test the one touched longest ago, where all that pass another pass the first
module _ (servers : List Nas) (links : List Link) (p : BookLink → Bool) where
  pub first_oldest : (q : Link → Bool) → ((link : Link) → p (link_seen servers link) ≡ true → q link ≡ true) → (at : ℕ) → IsOldest q links at → p (link_seen servers (link_at links at)) ≡ true
      → IsFirst (is_oldest p (links_seen servers links)) (links_seen servers links) at
  unfolding is_oldest
  first_oldest q among at oldest here =
      let long = length_seen servers links in
      let front = oldest.within in
      record {
        within = omega (arith, front, long);
        passed = λ d. subst (λ (one : BookLink). is_oldest p (links_seen servers links) one ≡ true) (sym (read_seen servers links at d front))
            (and_from _ _ here (all_of (λ (other : BookLink). nat_le (link_seen servers (link_at links at)).touched other.touched) p (links_seen servers links)
            (λ i d within passes.
            let inside : i < length links = omega (arith, within, long) in
            let read = read_seen servers links i d inside in
            let own : p (link_seen servers (link_at links i)) ≡ true = subst (λ (one : BookLink). p one ≡ true) read passes in
            subst (λ (one : BookLink). nat_le (link_seen servers (link_at links at)).touched one.touched ≡ true) (sym read)
            (least i inside (among (link_at links i) own)))));
        before = any_none (is_oldest p (links_seen servers links)) (links_seen servers links) at
            (λ i d low within. earlier i (omega (arith, within, long)) low (get_or (links_seen servers links) i d) (read_seen servers links i d (omega (arith, within, long))));
      }
    where
      least : (i : ℕ) → i < length links → q (link_at links i) ≡ true → nat_le (link_seen servers (link_at links at)).touched (link_seen servers (link_at links i)).touched ≡ true
      least i inside passes =
          le-leb _ _ (let later = oldest.oldest i inside passes in let mine = touched_seen servers (link_at links at) in let its = touched_seen servers (link_at links i) in omega (arith, later, mine, its))

      earlier : (i : ℕ) → i < length links → i < at → (one : BookLink) → one ≡ link_seen servers (link_at links i) → is_oldest p (links_seen servers links) one ≡ false
      earlier i inside low one read = by_cases (is_oldest p (links_seen servers links) one) refl where
        by_cases : (b : Bool) → is_oldest p (links_seen servers links) one ≡ b → is_oldest p (links_seen servers links) one ≡ false
        by_cases false e = e
        by_cases true e =
            let parts = and_parts (p one) (list_all (λ (other : BookLink). nat_le one.touched other.touched) (filter p (links_seen servers links))) e in
            let own : p (link_seen servers (link_at links i)) ≡ true = subst (λ (x : BookLink). p x ≡ true) read parts.0 in
            let less = oldest.first i low (among (link_at links i) own) in
            let there = read_seen servers links at one oldest.within in
            let long = length_seen servers links in
            let front = oldest.within in
            let no_later = one_of (λ (other : BookLink). nat_le one.touched other.touched) p (links_seen servers links) at one parts.1 (omega (arith, front, long))
            (subst (λ (x : BookLink). p x ≡ true) (sym there) here) in
            let mine : one.touched ≡ (link_at links i).touched = ap (λ (x : BookLink). x.touched) read ∙ touched_seen servers (link_at links i) in
            let its : (get_or (links_seen servers links) at one).touched ≡ (link_at links at).touched = ap (λ (x : BookLink). x.touched) there ∙ touched_seen servers (link_at links at) in
            absurd (false≢true (sym (lt-leb one.touched (get_or (links_seen servers links) at one).touched (omega (arith, less, mine, its))) ∙ no_later))

  pub none_oldest : ((i : ℕ) → i < length links → p (link_seen servers (link_at links i)) ≡ false) → find (is_oldest p (links_seen servers links)) (links_seen servers links) ≡ None
  unfolding is_oldest
  none_oldest none =
      let long = length_seen servers links in
      find_none (is_oldest p (links_seen servers links)) (links_seen servers links) (any_nowhere (is_oldest p (links_seen servers links)) (links_seen servers links)
      (λ i d within.
      let inside : i < length links = omega (arith, within, long) in
      let no : p (get_or (links_seen servers links) i d) ≡ false = ap p (read_seen servers links i d inside) ∙ none i inside in
      rw no refl))

old_enough : (live a b now : ℕ) → a ≤ b → nat_le live (now - b) ≡ true → nat_le live (now - a) ≡ true
old_enough live a b now later old =
    elim (cases_lt (now - b) live) [
      | inl low ↦ absurd (false≢true (sym (lt-leb live (now - b) low) ∙ old))
      | inr high ↦ le-leb live (now - a) (omega (arith, high, later))
    ]

pub yields_first : (servers : List Nas) (rules : Rules) (now : ℕ) (links : List Link) (at : ℕ) → IsOldest (is_of Bound) links at → is_stale_at rules now (link_seen servers (link_at links at)) ≡ true
    → IsFirst (can_yield rules now (links_seen servers links)) (links_seen servers links) at
unfolding can_yield
yields_first servers rules now links at oldest stale =
    first_oldest servers links (is_stale_at rules now) (is_of Bound) (λ link is. (stale_parts servers rules now link is).0) at oldest stale

pub none_bound : (servers : List Nas) (rules : Rules) (now : ℕ) (links : List Link) → ((i : ℕ) → i < length links → is_of Bound (link_at links i) ≡ false)
    → find (can_yield rules now (links_seen servers links)) (links_seen servers links) ≡ None
unfolding can_yield
none_bound servers rules now links none = none_oldest servers links (is_stale_at rules now) (λ i within. not_stale i within (is_stale_at rules now (link_seen servers (link_at links i))) refl) where
  not_stale : (i : ℕ) → i < length links → (b : Bool) → is_stale_at rules now (link_seen servers (link_at links i)) ≡ b → is_stale_at rules now (link_seen servers (link_at links i)) ≡ false
  not_stale i within true e = absurd (false≢true (sym (none i within) ∙ (stale_parts servers rules now (link_at links i) e).0))
  not_stale i within false e = e

pub none_stale : (servers : List Nas) (rules : Rules) (now : ℕ) (links : List Link) (at : ℕ) → IsOldest (is_of Bound) links at → is_stale_at rules now (link_seen servers (link_at links at)) ≡ false
    → find (can_yield rules now (links_seen servers links)) (links_seen servers links) ≡ None
unfolding can_yield
none_stale servers rules now links at oldest fresh = none_oldest servers links (is_stale_at rules now) (λ i within. not_stale i within (is_stale_at rules now (link_seen servers (link_at links i))) refl) where
  not_stale : (i : ℕ) → i < length links → (b : Bool) → is_stale_at rules now (link_seen servers (link_at links i)) ≡ b → is_stale_at rules now (link_seen servers (link_at links i)) ≡ false
  not_stale i within false e = e
  not_stale i within true e =
      let parts = stale_parts servers rules now (link_at links i) e in
      let old = old_enough rules.live (link_at links at).touched (link_at links i).touched now (oldest.oldest i within parts.0) parts.1 in
      absurd (false≢true (sym fresh ∙ stale_from servers rules now (link_at links at) oldest.passed old))

-- the link of a station
of_station_seen : (servers : List Nas) (station : List ℕ) (link : Link) → is_stationed (Some station) (link_seen servers link) ≡ is_of_station station link
unfolding is_stationed is_of_station link_seen
of_station_seen servers station link = by_cases link.station where
  by_cases : (own : Option (List ℕ)) → same_station own (Some station) ≡ has_octets station own
  by_cases None = refl
  by_cases (Some octets) = refl

pub returns_first : (servers : List Nas) (station : List ℕ) (links : List Link) (at : ℕ) → IsOldest (is_of_station station) links at
    → IsFirst (can_return (Some station) (links_seen servers links)) (links_seen servers links) at
unfolding can_return
returns_first servers station links at oldest =
    first_oldest servers links (is_stationed (Some station)) (is_of_station station) (λ link is. sym (of_station_seen servers station link) ∙ is) at oldest
    (of_station_seen servers station (link_at links at) ∙ oldest.passed)

pub none_returns : (servers : List Nas) (station : List ℕ) (links : List Link) → list_any (is_of_station station) links ≡ false → find (can_return (Some station) (links_seen servers links)) (links_seen servers links) ≡ None
unfolding can_return
none_returns servers station links none =
    none_oldest servers links (is_stationed (Some station)) (λ i within. of_station_seen servers station (link_at links i) ∙ nowhere_among (is_of_station station) links i none within)

-- and where no station asks
pub no_station : (servers : List Nas) (links : List Link) → find (can_return None (links_seen servers links)) (links_seen servers links) ≡ None
unfolding can_return is_stationed
no_station servers links = none_oldest servers links (is_stationed None) (λ i within. by_cases (link_seen servers (link_at links i)).station) where
  by_cases : (own : Option (List ℕ)) → same_station own None ≡ false
  by_cases None = refl
  by_cases (Some octets) = refl

-- and there is one link less
pub fewer_left : (links left : List Link) (at : ℕ) → at < length links → left ≡ take at links ++ drop (at + 1) links → length left < length links
fewer_left links left at within is =
    let all = ap length is in
    let sum = length-append (take at links) (drop (at + 1) links) in
    let front = length-take-le at links (omega (arith, within)) in
    let back = length-drop (at + 1) links in
    omega (arith, all, sum, front, back, within)
