-- What a split of an order finds: the first link of a session, the links of a bundle, those that were touched by a clock,
-- and whether a link names an index of the table.
use Rattle.std.proofs.Common.{◌≡◌, ℕ, zero, suc, ◌-◌, ◌<◌, ◌≤◌, List, [], ◌∷◌, drop, take, get_or, length, Bool, true, false, refl, ap, sym, ◌∙◌, subst, inl, inr, arith}
use Rattle.std.specs.Prelude.{Option, None, Some, IfNone, IfSome, is_some, count_by, ◌==◌, ◌||◌, ◌&&◌}
use Rattle.std.specs.List.{list_any}
use Rattle.std.proofs.lemmas.Bool.{and_from, and_parts, cases_eq, cases_lt, eq-eqb, eqb-true, false≢true, le-leb, lt-leb}
use Rattle.std.proofs.Math.Bool.{and-false}
use Rattle.rsl_session.specs.Same.{same_octets}
use Rattle.std.proofs.lemmas.List.{get_or_default}
use Rattle.std.proofs.lemmas.Slice.Eq.{bytes_eq-Decides}
use Rattle.rsl_links.specs.declared.link.Link.{Link}
use Rattle.rsl_links.specs.declared.link.Holder.{Holder as LinkHolder}
use Rattle.rsl_links.specs.declared.link.Holder.TheVariants.{Reserved as LinkReserved, Bound as LinkBound}
use Rattle.rsl_links.specs.declared.order.OrderKind.{OrderKind}
use Rattle.rsl_links.specs.declared.order.OrderKind.TheVariants.{Bound, Sessions, Bundles}
use Rattle.rsl_links.specs.First.{IsFirst}
use Rattle.rsl_links.specs.LinkList.{is_bound_at, is_bound_until, has_octets, is_for, is_held, is_id, is_member, is_wanted_holder}
use Rattle.rsl_links.specs.Named.{named_by_links}
use Rattle.rsl_links.specs.Order.{Key, IsOrderOf, IsSplit, key_at, goes_by, id_of, octets_of, is_before, is_of, holds_session, order_key, order_number, order_octets, link_at, no_link}
use Rattle.rsl_links.proofs.Before.{alike_or_before, first_of_key, heads, later_target, lower_before, lower_first, lower_head, touched_order}
use Rattle.rsl_links.proofs.Counting.{counted_between}
use Rattle.rsl_links.proofs.Orders.{same_order}
use Rattle.rsl_links.proofs.Yielding.{any_none, any_nowhere}

-- what goes by a number and octets is of the kind and has them for its key; and what has this key goes by them
parts_of : (a b c : Bool) → (a && b && c) ≡ true → (a ≡ true) × ((b ≡ true) × (c ≡ true))
parts_of true true true is = (refl, (refl, refl))
parts_of true true false is = absurd (false≢true is)
parts_of true false c is = absurd (false≢true is)
parts_of false b c is = absurd (false≢true is)

pub key_of : (kind : OrderKind) (number : ℕ) (octets : List ℕ) (link : Link) → goes_by kind number octets link ≡ true → (is_of kind link ≡ true) × (order_key kind link ≡ number ∷ octets)
unfolding goes_by
key_of kind number octets link is =
    let parts = parts_of (is_of kind link) (order_number kind link == number) (same_octets (order_octets kind link) octets) is in (
      parts.0,
      ap (λ n. n ∷ order_octets kind link) (eqb-true (order_number kind link) number parts.1.0)
          ∙ ap (λ (own : List ℕ). number ∷ own) ((bytes_eq-Decides (order_octets kind link) octets).0 parts.1.1),
    )

pub of_key : (kind : OrderKind) (number : ℕ) (octets : List ℕ) (link : Link) → is_of kind link ≡ true → order_key kind link ≡ number ∷ octets → goes_by kind number octets link ≡ true
unfolding goes_by
of_key kind number octets link of_kind key =
    rw (
      of_kind,
      eq-eqb (order_number kind link) number (ap (λ xs. get_or xs 0 0) key),
      (bytes_eq-Decides (order_octets kind link) octets).1 (ap (λ xs. drop 1 xs) key),
    ) refl

-- a member of a bundle is of the kind, and has its key
member_key : (nas : ℕ) (id : List ℕ) (link : Link) → is_member nas id link ≡ true → order_key Bundles link ≡ nas ∷ id
unfolding is_member
member_key nas id link member =
    let parts = and_parts (link.nas == nas) (has_octets id link.bundle) member in
    ap (λ n. n ∷ octets_of link.bundle) (eqb-true link.nas nas parts.0) ∙ by_bundle link.bundle parts.1
  where
    by_bundle : (bundle : Option (List ℕ)) → has_octets id bundle ≡ true → nas ∷ octets_of bundle ≡ nas ∷ id
    by_bundle None is = absurd (false≢true is)
    by_bundle (Some own) is = ap (λ octets. nas ∷ octets) ((bytes_eq-Decides own id).0 is)

key_member : (nas : ℕ) (id : List ℕ) (link : Link) → is_of Bundles link ≡ true → order_key Bundles link ≡ nas ∷ id → is_member nas id link ≡ true
unfolding is_member
key_member nas id link in_one key =
    and_from _ _ (eq-eqb link.nas nas (ap (λ xs. get_or xs 0 0) key)) (by_bundle link.bundle in_one (ap (λ xs. drop 1 xs) key))
  where
    by_bundle : (bundle : Option (List ℕ)) → is_some bundle ≡ true → octets_of bundle ≡ id → has_octets id bundle ≡ true
    by_bundle None in_one same = absurd (false≢true in_one)
    by_bundle (Some own) in_one same = (bytes_eq-Decides own id).1 same

no_member : (nas : ℕ) (id : List ℕ) (link : Link) → is_of Bundles link ≡ false → is_member nas id link ≡ false
unfolding is_member
no_member nas id link none = by_bundle link.bundle none where
  by_bundle : (bundle : Option (List ℕ)) → is_some bundle ≡ false → (link.nas == nas && has_octets id bundle) ≡ false
  by_bundle None none = and-false (link.nas == nas)
  by_bundle (Some own) none = absurd (false≢true (sym none))

pub read_link : (links : List Link) (at : ℕ) (d : Link) → at < length links → get_or links at d ≡ link_at links at
read_link links at d within = get_or_default links at d no_link within

module _ (kind : OrderKind) (links : List Link) (order : List ℕ) (o : IsOrderOf kind links order) (number : ℕ) (octets : List ℕ) (rank : ℕ) (split : IsSplit (key_at kind links) order (number ∷ octets, 0) rank) where
  -- where a link goes by these, the first of them stands at the split
  sought_there : (x : ℕ) → x < length links → goes_by kind number octets (link_at links x) ≡ true
      → (rank < length order) × ((goes_by kind number octets (link_at links (get_or order rank 0)) ≡ true) × (get_or order rank 0 ≤ x))
  sought_there x within sought =
      let key = key_of kind number octets (link_at links x) sought in
      let s = o.all x (record { within = within; other = omega (arith, within); of_kind = key.0 }) in
      let w = s.within in
      let own : key_at kind links (get_or order s.at 0) ≡ (number ∷ octets, x) = ap (key_at kind links) s.is ∙ ap (λ (k : List ℕ). (k, x)) key.1 in
      elim (cases_lt s.at rank) [
        | inl low ↦ absurd (false≢true (sym (first_of_key (number ∷ octets) x) ∙ subst (λ (e : Key). is_before e (number ∷ octets, 0) ≡ true) own (split.before s.at low)))
        | inr high ↦ elim (cases_eq s.at rank) [
          | inl same ↦ (
              let is : get_or order rank 0 ≡ x = sym (ap (λ n. get_or order n 0) same) ∙ s.is in
              (omega (arith, w, same), (ap (λ n. goes_by kind number octets (link_at links n)) is ∙ sought, omega (arith, is)))
              )
          | inr other ↦ (
              let inside : rank < length order = omega (arith, w, high, other) in
              let rise : is_before (key_at kind links (get_or order rank 0)) (number ∷ octets, x) ≡ true =
              subst (λ (e : Key). is_before (key_at kind links (get_or order rank 0)) e ≡ true) own (o.rises rank s.at (omega (arith, high, other)) w) in
              elim (alike_or_before (order_key kind (link_at links (get_or order rank 0))) (number ∷ octets) (get_or order rank 0) x rise) [
                | inl same ↦ (
                    let less = lower_first (number ∷ octets) (get_or order rank 0) x (subst (λ (k : List ℕ). is_before (k, get_or order rank 0) (number ∷ octets, x) ≡ true) same rise) in
                    (inside, (of_key kind number octets (link_at links (get_or order rank 0)) (o.each rank inside).of_kind same, omega (arith, less)))
                    )
                | inr before ↦ absurd (false≢true (sym (split.after rank (omega arith) inside) ∙ before))
              ]
              )
        ]
      ]

  pub first_sought : rank < length order → goes_by kind number octets (link_at links (get_or order rank 0)) ≡ true → IsFirst (goes_by kind number octets) links (get_or order rank 0)
  first_sought inside sought =
      let front = (o.each rank inside).within in
      record {
        within = front;
        passed = λ d. ap (goes_by kind number octets) (read_link links (get_or order rank 0) d front) ∙ sought;
        before = any_none (goes_by kind number octets) links (get_or order rank 0) (λ i d low within. ap (goes_by kind number octets) (read_link links i d within) ∙ not_sought i low within (goes_by kind number octets (link_at links i)) refl);
      }
    where
      not_sought : (i : ℕ) → i < get_or order rank 0 → i < length links → (b : Bool) → goes_by kind number octets (link_at links i) ≡ b → goes_by kind number octets (link_at links i) ≡ false
      not_sought i low within false e = e
      not_sought i low within true e = absurd (let first = (sought_there i within e).1.1 in omega (arith, low, first))

  pub none_sought : (rank < length order → goes_by kind number octets (link_at links (get_or order rank 0)) ≡ false) → list_any (goes_by kind number octets) links ≡ false
  none_sought none = any_nowhere (goes_by kind number octets) links (λ i d within. ap (goes_by kind number octets) (read_link links i d within) ∙ not_sought i within (goes_by kind number octets (link_at links i)) refl) where
    not_sought : (i : ℕ) → i < length links → (b : Bool) → goes_by kind number octets (link_at links i) ≡ b → goes_by kind number octets (link_at links i) ≡ false
    not_sought i within false e = e
    not_sought i within true e = absurd (let found = sought_there i within e in false≢true (sym (none found.0) ∙ found.1.0))

-- what a session goes by
pub held_is : (nas : ℕ) (id : List ℕ) (link : Link) → goes_by Sessions nas id link ≡ is_held nas id link
unfolding goes_by is_held
held_is nas id link = by_holder link.holder where
  by_holder : (holder : LinkHolder) → (holds_session holder && link.nas == nas && same_octets (id_of holder) id) ≡ (link.nas == nas && is_id id holder)
  by_holder (LinkReserved number) = sym (and-false (link.nas == nas))
  by_holder (LinkBound own) = refl

-- tests that say the same of each link
any_as : (p q : Link → Bool) → ((link : Link) → p link ≡ q link) → (links : List Link) → list_any p links ≡ list_any q links
any_as p q same [] = refl
any_as p q same (link ∷ links) = ap (λ b. b || list_any p links) (same link) ∙ ap (λ b. q link || b) (any_as p q same links)

pub first_as : (p q : Link → Bool) → ((link : Link) → p link ≡ q link) → (links : List Link) (at : ℕ) → IsFirst p links at → IsFirst q links at
first_as p q same links at first =
    record {
      within = first.within;
      passed = λ d. sym (same (get_or links at d)) ∙ first.passed d;
      before = sym (any_as p q same (take at links)) ∙ first.before;
    }

pub none_as : (p q : Link → Bool) → ((link : Link) → p link ≡ q link) → (links : List Link) → list_any p links ≡ false → list_any q links ≡ false
none_as p q same links none = sym (any_as p q same links) ∙ none

-- how many links of a kind pass, where they stand together in its order
counted_of : (kind : OrderKind) (p : Link → Bool) (links : List Link) (order : List ℕ) (a b : ℕ) → IsOrderOf kind links order → ((link : Link) → is_of kind link ≡ false → p link ≡ false) → a ≤ b → b ≤ length order
    → ((k : ℕ) → k < a → k < length order → p (link_at links (get_or order k 0)) ≡ false)
    → ((k : ℕ) → a ≤ k → k < b → k < length order → p (link_at links (get_or order k 0)) ≡ true)
    → ((k : ℕ) → b ≤ k → k < length order → p (link_at links (get_or order k 0)) ≡ false)
    → b - a ≡ count_by p links
counted_of kind p links order a b o others in_turn most before inside after =
    counted_between (is_of kind) p no_link links (key_at kind links) order a b others
    (same_order order o (λ x l. (l.within, l.of_kind)) (λ x l. record { within = l.0; other = (let w = l.0 in omega (arith, w)); of_kind = l.1 }) (λ x l. refl))
    in_turn most before inside after

pub counted_all : (kind : OrderKind) (links : List Link) (order : List ℕ) → IsOrderOf kind links order → length order ≡ count_by (is_of kind) links
counted_all kind links order o =
    let all = counted_of kind (is_of kind) links order 0 (length order) o (λ link is. is) (omega arith) (omega arith)
    (λ k low within. absurd (omega (arith, low))) (λ k from low within. (o.each k within).of_kind) (λ k high within. absurd (omega (arith, high, within))) in
    omega (arith, all)

pub counted_until : (clock : ℕ) (links : List Link) (order : List ℕ) (end : ℕ) → IsOrderOf Bound links order → IsSplit (key_at Bound links) order (clock ∷ [], length links) end → end ≡ count_by (is_bound_until clock) links
unfolding is_bound_until
counted_until clock links order end o split =
    let all = counted_of Bound (is_bound_until clock) links order 0 end o (λ link is. rw is refl) (omega arith) split.within
    (λ k low within. absurd (omega (arith, low)))
    (λ k from low within. and_from _ _ (o.each k within).of_kind (le-leb (link_at links (get_or order k 0)).touched clock (until k (split.before k low))))
    (λ k high within. rw (lt-leb (link_at links (get_or order k 0)).touched clock (past k within (split.after k high within))) (and-false (holds_session (link_at links (get_or order k 0)).holder))) in
    omega (arith, all)
  where
    until : (k : ℕ) → is_before (key_at Bound links (get_or order k 0)) (clock ∷ [], length links) ≡ true → (link_at links (get_or order k 0)).touched ≤ clock
    until k before = elim (touched_order (link_at links (get_or order k 0)).touched clock (get_or order k 0) (length links) before) [
      | inl less ↦ omega (arith, less)
      | inr tied ↦ (let same = tied.0 in omega (arith, same))
    ]

    past : (k : ℕ) → k < length order → is_before (key_at Bound links (get_or order k 0)) (clock ∷ [], length links) ≡ false → clock < (link_at links (get_or order k 0)).touched
    past k within after = elim (cases_lt clock (link_at links (get_or order k 0)).touched) [
      | inl less ↦ less
      | inr most ↦ elim (cases_eq (link_at links (get_or order k 0)).touched clock) [
        | inl same ↦ absurd (false≢true (sym after ∙ ap (λ n. is_before (n ∷ [], get_or order k 0) (clock ∷ [], length links)) same ∙ lower_before (clock ∷ []) (get_or order k 0) (length links) (o.each k within).within))
        | inr other ↦ absurd (false≢true (sym after ∙ lower_head (link_at links (get_or order k 0)).touched clock [] [] (get_or order k 0) (length links) (omega (arith, most, other))))
      ]
    ]

longer : (octet x : ℕ) (octets : List ℕ) → is_before (octet ∷ octets, x) ([], 0) ≡ true → false ≡ true
unfolding is_before
longer octet x octets before = before

not_empty : (octets : List ℕ) (x : ℕ) → is_before (octets, x) ([], 0) ≡ true → false ≡ true
not_empty [] x before = sym (first_of_key [] x) ∙ before
not_empty (octet ∷ octets) x before = longer octet x octets before

not_below : (nas : ℕ) (octets : List ℕ) (x : ℕ) → is_before (nas ∷ octets, x) (nas ∷ [], 0) ≡ true → false ≡ true
not_below nas octets x before =
    elim (heads nas nas octets [] x 0 before) [
      | inl low ↦ absurd (omega (arith, low))
      | inr last ↦ not_empty octets x last.1
    ]

-- the links of a sort key stand between two splits of its order
module _ (kind : OrderKind) (links : List Link) (order : List ℕ) (o : IsOrderOf kind links order) (key : List ℕ) (first end : ℕ) (from : IsSplit (key_at kind links) order (key, 0) first) (to : IsSplit (key_at kind links) order (key, length links) end) where
  pub in_turn : first ≤ end
  in_turn = elim (cases_lt end first) [
    | inl low ↦ absurd (
        let inside : end < length order = let w = from.within in omega (arith, low, w) in
        false≢true (sym (to.after end (omega arith) inside) ∙ later_target (order_key kind (link_at links (get_or order end 0))) key (get_or order end 0) 0 (length links) (omega arith) (from.before end low)))
    | inr high ↦ high
  ]

  pub alike_between : (k : ℕ) → first ≤ k → k < end → k < length order → order_key kind (link_at links (get_or order k 0)) ≡ key
  alike_between k high low within =
      elim (alike_or_before (order_key kind (link_at links (get_or order k 0))) key (get_or order k 0) (length links) (to.before k low)) [
        | inl same ↦ same
        | inr before ↦ absurd (false≢true (sym (from.after k high within) ∙ before))
      ]

  pub none_below : (k : ℕ) → k < first → order_key kind (link_at links (get_or order k 0)) ≡ key → false ≡ true
  none_below k low same = sym (first_of_key key (get_or order k 0)) ∙ subst (λ (t : List ℕ). is_before (t, get_or order k 0) (key, 0) ≡ true) same (from.before k low)

  pub none_above : (k : ℕ) → end ≤ k → k < length order → order_key kind (link_at links (get_or order k 0)) ≡ key → false ≡ true
  none_above k high within same =
      sym (to.after k high within)
      ∙ subst (λ (t : List ℕ). is_before (t, get_or order k 0) (key, length links) ≡ true) (sym same) (lower_before key (get_or order k 0) (length links) (o.each k within).within)

pub members_between : (links : List Link) (order : List ℕ) (o : IsOrderOf Bundles links order) (nas : ℕ) (id : List ℕ) (first end : ℕ) → IsSplit (key_at Bundles links) order (nas ∷ id, 0) first
    → IsSplit (key_at Bundles links) order (nas ∷ id, length links) end → end - first ≡ count_by (is_member nas id) links
members_between links order o nas id first end from to =
    counted_of Bundles (is_member nas id) links order first end o (λ link none. no_member nas id link none) (in_turn Bundles links order o (nas ∷ id) first end from to) to.within
    (λ k low within. not_member (get_or order k 0) (is_member nas id (link_at links (get_or order k 0))) refl (none_below Bundles links order o (nas ∷ id) first end from to k low))
    (λ k high low within. key_member nas id (link_at links (get_or order k 0)) (o.each k within).of_kind (alike_between Bundles links order o (nas ∷ id) first end from to k high low within))
    (λ k high within. not_member (get_or order k 0) (is_member nas id (link_at links (get_or order k 0))) refl (none_above Bundles links order o (nas ∷ id) first end from to k high within))
  where
    not_member : (x : ℕ) (b : Bool) → is_member nas id (link_at links x) ≡ b → (order_key Bundles (link_at links x) ≡ nas ∷ id → false ≡ true) → is_member nas id (link_at links x) ≡ false
    not_member x false e other = e
    not_member x true e other = absurd (false≢true (other (member_key nas id (link_at links x) e)))

module _ (links : List Link) (order : List ℕ) (o : IsOrderOf Sessions links order) (nas rank : ℕ) (split : IsSplit (key_at Sessions links) order (nas ∷ [], 0) rank) where
  -- where a bound link names the index, the one at the split does
  named_there : (x : ℕ) → x < length links → is_bound_at nas (link_at links x) ≡ true → (rank < length order) × ((link_at links (get_or order rank 0)).nas ≡ nas)
  unfolding is_bound_at
  named_there x within named =
      let parts = and_parts (holds_session (link_at links x).holder) ((link_at links x).nas == nas) named in
      let is = eqb-true (link_at links x).nas nas parts.1 in
      let s = o.all x (record { within = within; other = omega (arith, within); of_kind = parts.0 }) in
      let w = s.within in
      let octets = id_of (link_at links x).holder in
      let own : key_at Sessions links (get_or order s.at 0) ≡ (nas ∷ octets, x) = ap (key_at Sessions links) s.is ∙ ap (λ (n : ℕ). (n ∷ octets, x)) is in
      elim (cases_lt s.at rank) [
        | inl low ↦ absurd (false≢true (not_below nas octets x (subst (λ (e : Key). is_before e (nas ∷ [], 0) ≡ true) own (split.before s.at low))))
        | inr high ↦ elim (cases_eq s.at rank) [
          | inl same ↦ (omega (arith, w, same), ap (λ n. (link_at links n).nas) (sym (ap (λ n. get_or order n 0) same) ∙ s.is) ∙ is)
          | inr other ↦ (
              let inside : rank < length order = omega (arith, w, high, other) in
              let front = link_at links (get_or order rank 0) in
              let rise : is_before (key_at Sessions links (get_or order rank 0)) (nas ∷ octets, x) ≡ true =
              subst (λ (e : Key). is_before (key_at Sessions links (get_or order rank 0)) e ≡ true) own (o.rises rank s.at (omega (arith, high, other)) w) in
              elim (heads front.nas nas (id_of front.holder) octets (get_or order rank 0) x rise) [
                | inl low ↦ absurd (false≢true (sym (split.after rank (omega arith) inside) ∙ lower_head front.nas nas (id_of front.holder) [] (get_or order rank 0) 0 low))
                | inr same ↦ (inside, same.0)
              ]
              )
        ]
      ]

  pub names_none : (rank < length order → ((link_at links (get_or order rank 0)).nas == nas) ≡ false) → list_any (is_bound_at nas) links ≡ false
  names_none none = any_nowhere (is_bound_at nas) links (λ i d within. ap (is_bound_at nas) (read_link links i d within) ∙ other i within (is_bound_at nas (link_at links i)) refl) where
    other : (i : ℕ) → i < length links → (b : Bool) → is_bound_at nas (link_at links i) ≡ b → is_bound_at nas (link_at links i) ≡ false
    other i within false e = e
    other i within true e =
        absurd (let found = named_there i within e in
        false≢true (sym (none found.0) ∙ eq-eqb (link_at links (get_or order rank 0)).nas nas found.1))

  names_front : rank < length order → ((link_at links (get_or order rank 0)).nas == nas) ≡ true → list_any (is_bound_at nas) links ≡ true
  unfolding is_bound_at
  names_front inside is =
      let each = o.each rank inside in
      any_at (is_bound_at nas) links (get_or order rank 0) no_link each.within (and_from _ _ each.of_kind is)
    where
      any_at : (p : Link → Bool) (xs : List Link) (i : ℕ) (d : Link) → i < length xs → p (get_or xs i d) ≡ true → list_any p xs ≡ true
      any_at p [] i d within is = absurd (omega (arith, within))
      any_at p (x ∷ xs) zero d within is = rw is refl
      any_at p (x ∷ xs) (suc i) d within is = by_cases (p x) (any_at p xs i d (omega (arith, within)) is) where
        by_cases : (b : Bool) → list_any p xs ≡ true → (b || list_any p xs) ≡ true
        by_cases true rest = refl
        by_cases false rest = rest

  pub names_is : rank < length order → ((link_at links (get_or order rank 0)).nas == nas) ≡ list_any (is_bound_at nas) links
  names_is inside = by_cases ((link_at links (get_or order rank 0)).nas == nas) refl where
    by_cases : (b : Bool) → ((link_at links (get_or order rank 0)).nas == nas) ≡ b → ((link_at links (get_or order rank 0)).nas == nas) ≡ list_any (is_bound_at nas) links
    by_cases true e = e ∙ sym (names_front inside e)
    by_cases false e = e ∙ sym (names_none (λ within. e))

-- a link that names an index is bound or reserved
pub named_parts : (nas : ℕ) (links : List Link) → (list_any (is_bound_at nas) links || list_any (is_for nas None) links) ≡ named_by_links links nas
unfolding named_by_links is_bound_at is_for
named_parts nas [] = refl
named_parts nas (link ∷ links) = by_holder link.holder (link.nas == nas) (named_parts nas links) where
  turned : (a b c d : Bool) → (b || c) ≡ d → ((a || b) || c) ≡ (a || d)
  turned true b c d is = refl
  turned false b c d is = is

  crossed : (a b c d : Bool) → (b || c) ≡ d → (b || (a || c)) ≡ (a || d)
  crossed true true c d is = refl
  crossed true false c d is = refl
  crossed false b c d is = is

  by_holder : (holder : LinkHolder) (a : Bool) → (list_any (λ (one : Link). holds_session one.holder && one.nas == nas) links || list_any (λ (one : Link). is_wanted_holder None one.holder && one.nas == nas) links) ≡ list_any (λ (one : Link). one.nas == nas) links
      → (((holds_session holder && a) || list_any (λ (one : Link). holds_session one.holder && one.nas == nas) links) || ((is_wanted_holder None holder && a) || list_any (λ (one : Link). is_wanted_holder None one.holder && one.nas == nas) links))
      ≡ (a || list_any (λ (one : Link). one.nas == nas) links)
  by_holder (LinkReserved number) a is = crossed a _ _ _ is
  by_holder (LinkBound id) a is = turned a _ _ _ is

first_any : (p : Link → Bool) (xs : List Link) (at : ℕ) → at < length xs → ((d : Link) → p (get_or xs at d) ≡ true) → list_any p xs ≡ true
first_any p [] at within passed = absurd (omega (arith, within))
first_any p (x ∷ xs) zero within passed = rw (passed x) refl
first_any p (x ∷ xs) (suc at) within passed = by_cases (p x) (first_any p xs at (omega (arith, within)) passed) where
  by_cases : (b : Bool) → list_any p xs ≡ true → (b || list_any p xs) ≡ true
  by_cases true rest = refl
  by_cases false rest = rest

some_reserved : (nas : ℕ) (links : List Link) (found : Option ℕ) → IfSome found (λ at. IsFirst (is_for nas None) links at) → IfNone found (list_any (is_for nas None) links ≡ false) → is_some found ≡ list_any (is_for nas None) links
some_reserved nas links None some none = sym none
some_reserved nas links (Some at) some none = sym (first_any (is_for nas None) links at some.within some.passed)

-- an index is named by a bound link, or by one that is reserved
pub named_bound : (nas : ℕ) (links : List Link) → list_any (is_bound_at nas) links ≡ true → true ≡ named_by_links links nas
named_bound nas links bound = sym (sym (named_parts nas links) ∙ ap (λ b. b || list_any (is_for nas None) links) bound)

pub named_reserved : (nas : ℕ) (links : List Link) (found : Option ℕ) → list_any (is_bound_at nas) links ≡ false → IfSome found (λ at. IsFirst (is_for nas None) links at) → IfNone found (list_any (is_for nas None) links ≡ false)
    → is_some found ≡ named_by_links links nas
named_reserved nas links found none some missed =
    some_reserved nas links found some missed ∙ sym (ap (λ b. b || list_any (is_for nas None) links) none) ∙ named_parts nas links
