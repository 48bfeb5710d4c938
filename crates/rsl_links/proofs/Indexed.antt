-- Links at first indexes of the table: whether a link is of a session or in a bundle shows in its index.
use Rattle.std.proofs.Common.{◌≡◌, ◌≢◌, ℕ, zero, suc, ◌+◌, ◌<◌, List, [], ◌∷◌, ◌++◌, take, set, get_or, length, map, Bool, true, false, cond, refl, ap, sym, ◌∙◌, subst, inl, inr, arith}
use Rattle.std.specs.Prelude.{Option, None, Some, IfNone, count_by, find, ◌==◌, ◌&&◌}
use Rattle.std.specs.List.{All, list_any}
use Rattle.std.proofs.lemmas.Bool.{cases_eq, cases_lt, eq-eqb, false≢true, ne_eqb, or_parts}
use Rattle.std.proofs.lemmas.List.{get_or-map, get_or-set_other, get_or-set_same, length-map, length-set}
use Rattle.std.proofs.lemmas.List.Elements.{All-append, All-from_get_or, All-get_or}
use Rattle.std.proofs.lemmas.List.Sums.{sum_by-cons}
use Rattle.std.proofs.Math.Bool.{and-false}
use Rattle.rsl_event.specs.declared.nas.Nas.{Nas}
use Rattle.rsl_session.specs.declared.bundle.Bundle.{Bundle}
use Rattle.rsl_session.specs.Same.{same_bundle, same_nas, same_octets, same_session}
use Rattle.rsl_session.specs.Places.{is_bundle}
use Rattle.rsl_session.specs.Book.{BookLink, bundles_in}
use Rattle.rsl_session.specs.BookLinks.{can_be_taken, is_holder, is_link_of, is_wanted}
use Rattle.rsl_session.proofs.Callers.{nas_is_same, same_nas-true}
use Rattle.rsl_links.specs.declared.link.Link.{Link}
use Rattle.rsl_links.specs.declared.link.Holder.{Holder as LinkHolder}
use Rattle.rsl_links.specs.declared.link.Holder.TheVariants.{Reserved as LinkReserved, Bound as LinkBound}
use Rattle.rsl_links.specs.Changed.{taken_link, touched_link}
use Rattle.rsl_links.specs.First.{IsFirst, change_at}
use Rattle.rsl_links.specs.LinkList.{has_octets, is_for, is_held, is_id, is_member, is_wanted_holder}
use Rattle.rsl_links.specs.Named.{AreIndexed, IsIndex, named_by_links}
use Rattle.rsl_links.specs.Order.{link_at, no_link}
use Rattle.rsl_links.specs.Seen.{bundle_with, holder_at, link_seen, links_seen, server_at}
use Rattle.rsl_links.proofs.Found.{length-change_at}
use Rattle.rsl_links.proofs.Lists.{find_none}
use Rattle.rsl_links.proofs.OfLinks.{link_here}
use Rattle.rsl_links.proofs.Yielding.{any_none, any_nowhere, nowhere_among}

pub indexed_more : (servers : List Nas) (xs ys : List Link) (link : Link) → ys ≡ xs ++ link ∷ [] → IsIndex servers link.nas → AreIndexed servers xs → AreIndexed servers ys
indexed_more servers xs ys link is here indexed x within =
    let all = All-from_get_or (λ (one : Link). IsIndex servers one.nas) xs no_link indexed in
    let last = All-from_get_or (λ (one : Link). IsIndex servers one.nas) (link ∷ []) no_link single in
    let more = All-append (λ (one : Link). IsIndex servers one.nas) xs (link ∷ []) all last in
    All-get_or (λ (one : Link). IsIndex servers one.nas) ys x no_link within (subst (λ (zs : List Link). All (λ (one : Link). IsIndex servers one.nas) zs) (sym is) more)
  where
    single : (i : ℕ) → i < length (link ∷ []) → IsIndex servers (get_or (link ∷ []) i no_link).nas
    single zero low = here
    single (suc i) low = absurd (omega (arith, low))

nas_kept : (f : Link → Link) → ((x : Link) → (f x).nas ≡ x.nas) → (xs : List Link) (at x : ℕ) → (link_at (change_at at f xs) x).nas ≡ (link_at xs x).nas
unfolding change_at
nas_kept f same [] at x = refl
nas_kept f same (y ∷ ys) zero zero = same y
nas_kept f same (y ∷ ys) zero (suc x) = refl
nas_kept f same (y ∷ ys) (suc at) zero = refl
nas_kept f same (y ∷ ys) (suc at) (suc x) = nas_kept f same ys at x

pub indexed_changed : (servers : List Nas) (f : Link → Link) (xs ys : List Link) (at : ℕ) → ys ≡ change_at at f xs → ((x : Link) → (f x).nas ≡ x.nas) → AreIndexed servers xs → AreIndexed servers ys
indexed_changed servers f xs ys at is same indexed x within =
    let long = ap length is in
    let kept = length-change_at f xs at in
    subst (λ (n : ℕ). IsIndex servers n) (sym (ap (λ (zs : List Link). (link_at zs x).nas) is ∙ nas_kept f same xs at x)) (indexed x (omega (arith, within, long, kept)))

pub indexed_touched : (servers : List Nas) (now : ℕ) (bundle station : Option (List ℕ)) (xs ys : List Link) (at : ℕ) → ys ≡ change_at at (touched_link now bundle station) xs → AreIndexed servers xs → AreIndexed servers ys
unfolding touched_link
indexed_touched servers now bundle station xs ys at is indexed = indexed_changed servers (touched_link now bundle station) xs ys at is (λ x. refl) indexed

pub indexed_taken : (servers : List Nas) (now : ℕ) (id : List ℕ) (bundle station : Option (List ℕ)) (xs ys : List Link) (at : ℕ) → ys ≡ change_at at (taken_link now id bundle station) xs → AreIndexed servers xs → AreIndexed servers ys
unfolding taken_link
indexed_taken servers now id bundle station xs ys at is indexed = indexed_changed servers (taken_link now id bundle station) xs ys at is (λ x. refl) indexed

pub indexed_none : (servers : List Nas) (xs : List Link) → xs ≡ [] → AreIndexed servers xs
indexed_none servers xs none x within = absurd (let long = ap length none in omega (arith, within, long))

-- an access server that stands nowhere is put where no link is
pub new_index : (servers : List Nas) (nas : Nas) (at : ℕ) → at < length servers → ((x : ℕ) → x < length servers → server_at servers x ≢ nas) → IsIndex (set servers at nas) at
new_index servers nas at within nowhere =
    record {
      within = (let long = length-set servers at nas in omega (arith, within, long));
      first = λ x low same. nowhere x (omega (arith, within, low)) (sym (get_or-set_other servers at x nas _ (omega (arith, low))) ∙ same ∙ get_or-set_same servers at nas _ within);
    }

pub kept_index : (servers : List Nas) (nas : Nas) (at index : ℕ) → at < length servers → ((x : ℕ) → x < length servers → server_at servers x ≢ nas) → index ≢ at → IsIndex servers index → IsIndex (set servers at nas) index
kept_index servers nas at index within nowhere other is =
    let inside = is.within in
    let here : server_at (set servers at nas) index ≡ server_at servers index = get_or-set_other servers at index nas _ other in
    record {
      within = (let long = length-set servers at nas in omega (arith, inside, long));
      first = λ x low same. elim (cases_eq x at) [
        | inl there ↦ nowhere index inside (sym here ∙ sym same ∙ ap (server_at (set servers at nas)) there ∙ get_or-set_same servers at nas _ within)
        | inr apart ↦ is.first x low (sym (get_or-set_other servers at x nas _ apart) ∙ same ∙ here)
      ];
    }

pub indexed_put : (servers : List Nas) (nas : Nas) (at : ℕ) (links : List Link) → at < length servers → ((x : ℕ) → x < length servers → server_at servers x ≢ nas) → named_by_links links at ≡ false
    → AreIndexed servers links → AreIndexed (set servers at nas) links
unfolding named_by_links
indexed_put servers nas at links within nowhere free indexed x inside =
    kept_index servers nas at (link_at links x).nas within nowhere
    (λ same. false≢true (sym (nowhere_among (λ (link : Link). link.nas == at) links x free inside) ∙ eq-eqb (link_at links x).nas at same))
    (indexed x inside)

-- links at one access server are at one index
same_index : (servers : List Nas) (nas : Nas) (index at : ℕ) → IsIndex servers index → server_at servers index ≡ nas → IsIndex servers at → same_nas (server_at servers at) nas ≡ (at == index)
same_index servers nas index at is stands other =
    elim (cases_eq at index) [
      | inl same ↦ (
          sym (ap (λ one. same_nas one nas) (sym (ap (server_at servers) same ∙ stands)))
          ∙ sym (nas_is_same nas nas true ((λ e. refl), (λ e. refl))) ∙ sym (eq-eqb at index same)
          )
      | inr apart ↦ by_cases (same_nas (server_at servers at) nas) refl apart ∙ sym (ne_eqb at index apart)
    ]
  where
    by_cases : (b : Bool) → same_nas (server_at servers at) nas ≡ b → at ≢ index → same_nas (server_at servers at) nas ≡ false
    by_cases false e apart = e
    by_cases true e apart =
        let alike : server_at servers at ≡ server_at servers index = same_nas-true (server_at servers at) nas e ∙ sym stands in
        elim (cases_lt at index) [
          | inl low ↦ absurd (is.first at low alike)
          | inr high ↦ absurd (other.first index (omega (arith, high, apart)) (sym alike))
        ]

pub held_seen : (servers : List Nas) (nas : Nas) (id : List ℕ) (index : ℕ) (link : Link) → IsIndex servers index → server_at servers index ≡ nas → IsIndex servers link.nas
    → is_link_of (record { nas = nas; id = id }) (link_seen servers link) ≡ is_held index id link
unfolding is_link_of link_seen is_held same_session
held_seen servers nas id index link is stands other = by_holder link.holder where
  by_holder : (holder : LinkHolder) → is_holder (record { nas = nas; id = id }) (holder_at (server_at servers link.nas) holder) ≡ (link.nas == index && is_id id holder)
  by_holder (LinkReserved number) = sym (and-false (link.nas == index))
  by_holder (LinkBound own) = ap (λ b. b && same_octets own id) (same_index servers nas index link.nas is stands other)

taken_seen : (servers : List Nas) (nas : Nas) (class : Option ℕ) (index : ℕ) (link : Link) → IsIndex servers index → server_at servers index ≡ nas → IsIndex servers link.nas
    → can_be_taken nas class (link_seen servers link) ≡ is_for index class link
unfolding can_be_taken link_seen is_for
taken_seen servers nas class index link is stands other =
    ap (λ b. is_wanted class (holder_at (server_at servers link.nas) link.holder) && b) (same_index servers nas index link.nas is stands other)
    ∙ ap (λ b. b && link.nas == index) (wanted class link.holder)
  where
    wanted : (class : Option ℕ) (holder : LinkHolder) → is_wanted class (holder_at (server_at servers link.nas) holder) ≡ is_wanted_holder class holder
    wanted None (LinkReserved number) = refl
    wanted None (LinkBound own) = refl
    wanted (Some number) (LinkReserved own) = refl
    wanted (Some number) (LinkBound own) = refl

member_seen : (servers : List Nas) (id : List ℕ) (index : ℕ) (link : Link) → IsIndex servers index → IsIndex servers link.nas
    → is_bundle (record { nas = server_at servers index; id = id }) (link_seen servers link).bundle ≡ is_member index id link
unfolding link_seen is_member same_bundle
member_seen servers id index link is other = by_bundle link.bundle where
  by_bundle : (bundle : Option (List ℕ)) → is_bundle (record { nas = server_at servers index; id = id }) (bundle_with (server_at servers link.nas) bundle) ≡ (link.nas == index && has_octets id bundle)
  by_bundle None = sym (and-false (link.nas == index))
  by_bundle (Some own) = ap (λ b. b && same_octets own id) (same_index servers (server_at servers index) index link.nas is refl other)

pub members_seen : (servers : List Nas) (id : List ℕ) (index : ℕ) (links : List Link) → IsIndex servers index → AreIndexed servers links
    → count_by (is_member index id) links ≡ count_by (is_bundle (record { nas = server_at servers index; id = id })) (bundles_in (links_seen servers links))
unfolding bundles_in links_seen
members_seen servers id index [] is indexed = refl
members_seen servers id index (link ∷ links) is indexed =
    let named : Bundle = record { nas = server_at servers index; id = id } in
    sum_by-cons (λ one. cond (is_member index id one) 1 0) link links
    ∙ ap (λ b. cond b 1 0 + count_by (is_member index id) links) (sym (member_seen servers id index link is (indexed zero (omega arith))))
    ∙ ap (λ n. cond (is_bundle named (link_seen servers link).bundle) 1 0 + n) (members_seen servers id index links is (λ x within. indexed (suc x) (omega (arith, within))))
    ∙ sym (sum_by-cons (λ b. cond (is_bundle named b) 1 0) (link_seen servers link).bundle (map (λ (one : BookLink). one.bundle) (map (link_seen servers) links)))

-- those that share a bundle with the link at a position
pub members_at : (servers : List Nas) (links : List Link) (at members : ℕ) (link : Link) (id octets : List ℕ) → at < length links → link ≡ get_or links at link → octets ≡ id → AreIndexed servers links
    → members ≡ count_by (is_member link.nas octets) links → members ≡ count_by (is_bundle (record { nas = server_at servers link.nas; id = id })) (bundles_in (links_seen servers links))
members_at servers links at members link id octets within is same indexed counts =
    counts ∙ ap (λ (own : List ℕ). count_by (is_member link.nas own) links) same
    ∙ members_seen servers id link.nas links (subst (λ (one : Link). IsIndex servers one.nas) (sym (link_here links at link within is)) (indexed at within)) indexed

-- the first link of a session, as it is seen
none_before : (q : Link → Bool) (xs : List Link) (at i : ℕ) → list_any q (take at xs) ≡ false → i < at → i < length xs → q (link_at xs i) ≡ false
none_before q xs zero i none low within = absurd (omega (arith, low))
none_before q [] (suc at) i none low within = absurd (omega (arith, within))
none_before q (x ∷ xs) (suc at) zero none low within = (or_parts (q x) (list_any q (take at xs)) none).0
none_before q (x ∷ xs) (suc at) (suc i) none low within = none_before q xs at i (or_parts (q x) (list_any q (take at xs)) none).1 (omega (arith, low)) (omega (arith, within))

module _ (servers : List Nas) (links : List Link) (p : BookLink → Bool) (q : Link → Bool) (same : (x : ℕ) → x < length links → p (link_seen servers (link_at links x)) ≡ q (link_at links x)) where
  pub first_seen : (at : ℕ) → IsFirst q links at → IsFirst p (links_seen servers links) at
  unfolding links_seen
  first_seen at first =
      let long = length-map links (link_seen servers) in
      let front = first.within in
      record {
        within = omega (arith, front, long);
        passed = λ d. ap p (get_or-map (link_seen servers) links at no_link d front) ∙ same at front ∙ first.passed no_link;
        before = any_none p (map (link_seen servers) links) at
            (λ i d low within.
            let inside : i < length links = omega (arith, within, long) in
            ap p (get_or-map (link_seen servers) links i no_link d inside) ∙ same i inside ∙ none_before q links at i first.before low inside);
      }

  pub none_seen : list_any q links ≡ false → find p (links_seen servers links) ≡ None
  unfolding links_seen
  none_seen none =
      let long = length-map links (link_seen servers) in
      find_none p (map (link_seen servers) links) (any_nowhere p (map (link_seen servers) links)
      (λ i d within.
      let inside : i < length links = omega (arith, within, long) in
      ap p (get_or-map (link_seen servers) links i no_link d inside) ∙ same i inside ∙ nowhere_among q links i none inside))

-- where an access server stands nowhere, no link is at it
other_server : (servers : List Nas) (nas : Nas) (link : Link) → IsIndex servers link.nas → ((x : ℕ) → x < length servers → server_at servers x ≢ nas) → same_nas (server_at servers link.nas) nas ≡ false
other_server servers nas link is nowhere = by_cases (same_nas (server_at servers link.nas) nas) refl where
  by_cases : (b : Bool) → same_nas (server_at servers link.nas) nas ≡ b → same_nas (server_at servers link.nas) nas ≡ false
  by_cases false e = e
  by_cases true e = absurd (nowhere link.nas is.within (same_nas-true (server_at servers link.nas) nas e))

not_held : (servers : List Nas) (nas : Nas) (id : List ℕ) (link : Link) → IsIndex servers link.nas → ((x : ℕ) → x < length servers → server_at servers x ≢ nas)
    → is_link_of (record { nas = nas; id = id }) (link_seen servers link) ≡ false
unfolding is_link_of link_seen same_session
not_held servers nas id link is nowhere = by_holder link.holder where
  by_holder : (holder : LinkHolder) → is_holder (record { nas = nas; id = id }) (holder_at (server_at servers link.nas) holder) ≡ false
  by_holder (LinkReserved number) = refl
  by_holder (LinkBound own) = ap (λ b. b && same_octets own id) (other_server servers nas link is nowhere)

not_taken : (servers : List Nas) (nas : Nas) (class : Option ℕ) (link : Link) → IsIndex servers link.nas → ((x : ℕ) → x < length servers → server_at servers x ≢ nas)
    → can_be_taken nas class (link_seen servers link) ≡ false
unfolding can_be_taken link_seen
not_taken servers nas class link is nowhere =
    ap (λ b. is_wanted class (holder_at (server_at servers link.nas) link.holder) && b) (other_server servers nas link is nowhere)
    ∙ and-false (is_wanted class (holder_at (server_at servers link.nas) link.holder))

module _ (servers : List Nas) (nas : Nas) (links : List Link) (indexed : AreIndexed servers links) where
  none_at_all : list_any (λ (link : Link). false) links ≡ false
  none_at_all = any_nowhere (λ (link : Link). false) links (λ i d within. refl)

  pub session_nowhere : (id : List ℕ) → ((x : ℕ) → x < length servers → server_at servers x ≢ nas) → find (is_link_of (record { nas = nas; id = id })) (links_seen servers links) ≡ None
  session_nowhere id nowhere =
      none_seen servers links (is_link_of (record { nas = nas; id = id })) (λ link. false) (λ x within. not_held servers nas id (link_at links x) (indexed x within) nowhere) none_at_all

  pub taken_nowhere : (class : Option ℕ) → ((x : ℕ) → x < length servers → server_at servers x ≢ nas) → find (can_be_taken nas class) (links_seen servers links) ≡ None
  taken_nowhere class nowhere =
      none_seen servers links (can_be_taken nas class) (λ link. false) (λ x within. not_taken servers nas class (link_at links x) (indexed x within) nowhere) none_at_all

  module _ (index : ℕ) (is : IsIndex servers index) (stands : server_at servers index ≡ nas) where
    same_held : (id : List ℕ) (x : ℕ) → x < length links → is_link_of (record { nas = nas; id = id }) (link_seen servers (link_at links x)) ≡ is_held index id (link_at links x)
    same_held id x within = held_seen servers nas id index (link_at links x) is stands (indexed x within)

    same_taken : (class : Option ℕ) (x : ℕ) → x < length links → can_be_taken nas class (link_seen servers (link_at links x)) ≡ is_for index class (link_at links x)
    same_taken class x within = taken_seen servers nas class index (link_at links x) is stands (indexed x within)

    pub session_seen : (id : List ℕ) (at : ℕ) → IsFirst (is_held index id) links at → IsFirst (is_link_of (record { nas = nas; id = id })) (links_seen servers links) at
    session_seen id at first = first_seen servers links (is_link_of (record { nas = nas; id = id })) (is_held index id) (same_held id) at first

    pub no_session_seen : (id : List ℕ) → list_any (is_held index id) links ≡ false → find (is_link_of (record { nas = nas; id = id })) (links_seen servers links) ≡ None
    no_session_seen id none = none_seen servers links (is_link_of (record { nas = nas; id = id })) (is_held index id) (same_held id) none

    pub reservation_seen : (class : Option ℕ) (at : ℕ) → IsFirst (is_for index class) links at → IsFirst (can_be_taken nas class) (links_seen servers links) at
    reservation_seen class at first = first_seen servers links (can_be_taken nas class) (is_for index class) (same_taken class) at first

    pub no_reservation_seen : (class : Option ℕ) → list_any (is_for index class) links ≡ false → find (can_be_taken nas class) (links_seen servers links) ≡ None
    no_reservation_seen class none = none_seen servers links (can_be_taken nas class) (is_for index class) (same_taken class) none

pub none_then : {P Q : Type 0} (found : Option ℕ) → IfNone found P → (P → Q) → IfNone found Q
none_then None none then = then none
none_then (Some at) none then = none
