-- Orders of a book's links: one link less, more, changed, or gone from among them.
use Rattle.std.proofs.Common.{◌≡◌, ◌≢◌, ℕ, zero, suc, ◌+◌, ◌-◌, ◌<◌, List, [], ◌∷◌, ◌++◌, get_or, length, length-append, map, set, Bool, true, false, refl, ap, sym, ◌∙◌, subst, arith, inl, inr}
use Rattle.std.specs.Prelude.{nat_lt, if◌then◌else◌}
use Rattle.std.specs.List.{insert, remove}
use Rattle.std.proofs.lemmas.Bool.{false≢true, cases_lt, cases_eq, lt-ltb, le-ltb}
use Rattle.std.proofs.lemmas.List.{get_or_default, get_or_append_left, get_or-set_same, get_or-set_other, length-set}
use Rattle.std.proofs.lemmas.List.Edits.{get_or-remove_below, get_or-remove_above, length-remove}
use Rattle.rsl_links.specs.declared.link.Link.{Link}
use Rattle.rsl_links.specs.declared.order.OrderKind.{OrderKind}
use Rattle.rsl_links.specs.Order.{Key, key_at, is_before, is_of, order_key, link_at, no_link, IsSplit, IsListed, IsOrderBut, IsOrderOf}
use Rattle.rsl_links.proofs.Before.{neither, moved_before}
use Rattle.rsl_links.proofs.Orders.{apart, removed, inserted, same_order, mapped, few, Came}

pub link_here : (links : List Link) (at : ℕ) (link : Link) → at < length links → link ≡ get_or links at link → link ≡ link_at links at
link_here links at link within is = is ∙ get_or_default links at link no_link within

-- what an order lists at a rank
pub listed_here : (order : List ℕ) (k slot : ℕ) → k < length order → slot ≡ get_or order k slot → slot ≡ get_or order k 0
listed_here order k slot inside is = is ∙ get_or_default order k slot 0 inside

pub few_others : (kind : OrderKind) (links : List Link) (at : ℕ) (order : List ℕ) → at < length links → IsOrderBut kind links at order → length order < length links
few_others kind links at order within o =
    let most = few (length links) (at ∷ order) below distinct in
    omega (arith, most)
  where
    below : (k : ℕ) → k < length (at ∷ order) → get_or (at ∷ order) k 0 < length links
    below zero inside = within
    below (suc k) inside = (o.each k (omega (arith, inside))).within

    distinct : (j k : ℕ) → j < k → k < length (at ∷ order) → get_or (at ∷ order) j 0 ≢ get_or (at ∷ order) k 0
    distinct j zero past inside = absurd (omega (arith, past))
    distinct zero (suc k) past inside = λ e. (o.each k (omega (arith, inside))).other (sym e)
    distinct (suc j) (suc k) past inside = apart order o j k (omega (arith, past)) (omega (arith, inside))

-- a link is taken out, or did not stand there
pub withdrawn : (kind : OrderKind) (links : List Link) (order : List ℕ) (at rank : ℕ) → IsOrderOf kind links order → rank < length order → get_or order rank 0 ≡ at
    → IsOrderBut kind links at (remove order rank)
withdrawn kind links order at rank o within is =
    removed order o (IsListed kind links at) rank at within is
    (λ y l other. record { within = l.within; other = other; of_kind = l.of_kind })
    (λ y l. record { within = l.within; other = (let w = l.within in omega (arith, w)); of_kind = l.of_kind })
    (λ y l. l.other)

pub not_there : (kind : OrderKind) (links : List Link) (order : List ℕ) (at : ℕ) → IsOrderOf kind links order → is_of kind (link_at links at) ≡ false → IsOrderBut kind links at order
not_there kind links order at o other_kind =
    same_order order o
    (λ x l. record { within = l.within; other = (λ e. false≢true (sym other_kind ∙ subst (λ n. is_of kind (link_at links n) ≡ true) e l.of_kind)); of_kind = l.of_kind })
    (λ x l. record { within = l.within; other = (let w = l.within in omega (arith, w)); of_kind = l.of_kind })
    (λ x l. refl)

-- a link is put in, or is of another kind
pub entered : (kind : OrderKind) (links : List Link) (order : List ℕ) (at rank : ℕ) → at < length links → IsOrderBut kind links at order → is_of kind (link_at links at) ≡ true
    → IsSplit (key_at kind links) order (key_at kind links at) rank → IsOrderOf kind links (insert order rank at)
entered kind links order at rank within o here split =
    inserted order o (IsListed kind links (length links)) rank at split
    (record { within = within; other = omega (arith, within); of_kind = here })
    (λ y l. record { within = l.within; other = (let w = l.within in omega (arith, w)); of_kind = l.of_kind })
    (λ y l not_before. after y l not_before)
    (λ y l. elim (cases_eq y at) [
      | inl same ↦ inl same
      | inr other ↦ inr (record { within = l.within; other = other; of_kind = l.of_kind })
    ])
  where
    after : (y : ℕ) → IsListed kind links at y → is_before (key_at kind links y) (key_at kind links at) ≡ false → is_before (key_at kind links at) (key_at kind links y) ≡ true
    after y l not_before = by_cases (is_before (key_at kind links at) (key_at kind links y)) refl where
      by_cases : (b : Bool) → is_before (key_at kind links at) (key_at kind links y) ≡ b → is_before (key_at kind links at) (key_at kind links y) ≡ true
      by_cases true e = e
      by_cases false e = absurd (l.other (neither (key_at kind links y) (key_at kind links at) not_before e).1)

pub not_entered : (kind : OrderKind) (links : List Link) (order : List ℕ) (at : ℕ) → IsOrderBut kind links at order → is_of kind (link_at links at) ≡ false → IsOrderOf kind links order
not_entered kind links order at o other_kind =
    same_order order o
    (λ x l. record { within = l.within; other = (let w = l.within in omega (arith, w)); of_kind = l.of_kind })
    (λ x l. record { within = l.within; other = (λ e. false≢true (sym other_kind ∙ subst (λ n. is_of kind (link_at links n) ≡ true) e l.of_kind)); of_kind = l.of_kind })
    (λ x l. refl)

-- the link that an order leaves out is changed
pub changed_but : (kind : OrderKind) (links others : List Link) (at : ℕ) (order : List ℕ) → length others ≡ length links → ((x : ℕ) → x ≢ at → link_at others x ≡ link_at links x)
    → IsOrderBut kind links at order → IsOrderBut kind others at order
changed_but kind links others at order long same o =
    same_order order o
    (λ x l. record { within = (let w = l.within in omega (arith, w, long)); other = l.other; of_kind = ap (λ (one : Link). is_of kind one) (same x l.other) ∙ l.of_kind })
    (λ x l. record { within = (let w = l.within in omega (arith, w, long)); other = l.other; of_kind = sym (ap (λ (one : Link). is_of kind one) (same x l.other)) ∙ l.of_kind })
    (λ x l. ap (λ (one : Link). (order_key kind one, x)) (same x l.other))

-- one link more, which the order leaves out
pub grown : (kind : OrderKind) (links : List Link) (link : Link) (order : List ℕ) → IsOrderOf kind links order → IsOrderBut kind (links ++ link ∷ []) (length links) order
grown kind links link order o =
    let long : length (links ++ link ∷ []) ≡ length links + 1 = length-append links (link ∷ []) in
    let same : (x : ℕ) → x < length links → link_at (links ++ link ∷ []) x ≡ link_at links x = λ x within. get_or_append_left links (link ∷ []) no_link x within in
    same_order order o
    (λ x l. record { within = (let w = l.within in omega (arith, w, long)); other = l.other; of_kind = ap (λ (one : Link). is_of kind one) (same x l.within) ∙ l.of_kind })
    (λ x l.
    let w = l.within in
    let ne = l.other in
    let within : x < length links = omega (arith, w, long, ne) in
    record { within = within; other = l.other; of_kind = sym (ap (λ (one : Link). is_of kind one) (same x within)) ∙ l.of_kind })
    (λ x l. ap (λ (one : Link). (order_key kind one, x)) (same x l.within))

-- where a position moves once the link at another is gone
abbrev pub moved_up : ℕ → ℕ → ℕ
moved_up gone at = if nat_lt gone at then at - 1 else at

-- the link that an order leaves out is gone from among the others
pub up_below : (gone x : ℕ) → x < gone → moved_up gone x ≡ x
up_below gone x low = rw (le-ltb gone x (omega arith)) refl

pub up_above : (gone x : ℕ) → gone < x → moved_up gone x ≡ x - 1
up_above gone x high = rw (lt-ltb gone x high) refl

pub closed : (kind : OrderKind) (links : List Link) (at : ℕ) (order : List ℕ) → at < length links → IsOrderBut kind links at order → IsOrderOf kind (remove links at) (map (moved_up at) order)
closed kind links at order within o =
    mapped order (moved_up at) o
    (λ x l. record { within = inside x l; other = (let w = inside x l in omega (arith, w)); of_kind = ap (λ (one : Link). is_of kind one) (same x l) ∙ l.of_kind })
    (λ x y one two before.
    subst (λ (e : Key). is_before e (key_at kind (remove links at) (moved_up at y)) ≡ true) (sym (entry x one))
    (subst (λ (e : Key). is_before (order_key kind (link_at links x), moved_up at x) e ≡ true) (sym (entry y two))
    (moved_before _ _ x y (moved_up at x) (moved_up at y) (λ less. order_kept x y one.other two.other less) before)))
    (λ y l. came y l)
  where
    long : length (remove links at) + 1 ≡ length links
    long = length-remove links at within

    inside : (x : ℕ) → IsListed kind links at x → moved_up at x < length (remove links at)
    inside x l =
        let w = l.within in
        elim (cases_lt x at) [
          | inl low ↦ (let up = up_below at x low in omega (arith, up, long, low, within))
          | inr high ↦ (let ne = l.other in let up = up_above at x (omega (arith, high, ne)) in omega (arith, up, long, high, ne, w))
        ]

    same : (x : ℕ) → IsListed kind links at x → link_at (remove links at) (moved_up at x) ≡ link_at links x
    same x l =
        elim (cases_lt x at) [
          | inl low ↦ ap (λ n. link_at (remove links at) n) (up_below at x low) ∙ get_or-remove_below links at no_link x low within
          | inr high ↦ (
              let ne = l.other in
              let past : at < x = omega (arith, high, ne) in
              let back : x - 1 + 1 ≡ x = omega (arith, past) in
              ap (λ n. link_at (remove links at) n) (up_above at x past) ∙ get_or-remove_above links at no_link (x - 1) (omega (arith, past)) within ∙ ap (λ n. link_at links n) back
              )
        ]

    entry : (x : ℕ) → IsListed kind links at x → key_at kind (remove links at) (moved_up at x) ≡ (order_key kind (link_at links x), moved_up at x)
    entry x l = ap (λ (one : Link). (order_key kind one, moved_up at x)) (same x l)

    order_kept : (x y : ℕ) → x ≢ at → y ≢ at → x < y → moved_up at x < moved_up at y
    order_kept x y one two less =
        elim (cases_lt x at) [
          | inl low ↦ elim (cases_lt y at) [
            | inl other ↦ (let a = up_below at x low in let b = up_below at y other in omega (arith, a, b, less))
            | inr other ↦ (let a = up_below at x low in let b = up_above at y (omega (arith, other, two)) in omega (arith, a, b, less, low, other, two))
          ]
          | inr high ↦ (let a = up_above at x (omega (arith, high, one)) in let b = up_above at y (omega (arith, high, less)) in omega (arith, a, b, less, high, one))
        ]

    came : (y : ℕ) → IsListed kind (remove links at) (length (remove links at)) y → Came (IsListed kind links at) (moved_up at) y
    came y l =
        let w = l.within in
        elim (cases_lt y at) [
          | inl low ↦ record {
            from = y;
            listed_there = record { within = omega (arith, w, long); other = omega (arith, low); of_kind = sym (ap (λ (one : Link). is_of kind one) (get_or-remove_below links at no_link y low within)) ∙ l.of_kind };
            is = up_below at y low;
          }
          | inr high ↦ record {
            from = y + 1;
            listed_there = record { within = omega (arith, w, long); other = omega (arith, high); of_kind = sym (ap (λ (one : Link). is_of kind one) (get_or-remove_above links at no_link y high within)) ∙ l.of_kind };
            is = (let up = up_above at (y + 1) (omega (arith, high)) in omega (arith, up));
          }
        ]

-- a link is changed, and not in what its order goes by
pub kept_order : (kind : OrderKind) (links : List Link) (at : ℕ) (link : Link) (order : List ℕ) → at < length links → order_key kind link ≡ order_key kind (link_at links at) → is_of kind link ≡ is_of kind (link_at links at)
    → IsOrderOf kind links order → IsOrderOf kind (set links at link) order
kept_order kind links at link order within same_key same_kind o =
    let long : length (set links at link) ≡ length links = length-set links at link in
    same_order order o
    (λ x l. record { within = (let w = l.within in omega (arith, w, long)); other = (let w = l.within in omega (arith, w, long)); of_kind = kinds x ∙ l.of_kind })
    (λ x l. record { within = (let w = l.within in omega (arith, w, long)); other = (let w = l.within in omega (arith, w, long)); of_kind = sym (kinds x) ∙ l.of_kind })
    (λ x l. ap (λ (key : List ℕ). (key, x)) (keys x))
  where
    kinds : (x : ℕ) → is_of kind (link_at (set links at link) x) ≡ is_of kind (link_at links x)
    kinds x = elim (cases_eq x at) [
      | inl same ↦ ap (λ n. is_of kind (link_at (set links at link) n)) same ∙ ap (λ (one : Link). is_of kind one) (get_or-set_same links at link no_link within) ∙ same_kind ∙ ap (λ n. is_of kind (link_at links n)) (sym same)
      | inr other ↦ ap (λ (one : Link). is_of kind one) (get_or-set_other links at x link no_link other)
    ]

    keys : (x : ℕ) → order_key kind (link_at (set links at link) x) ≡ order_key kind (link_at links x)
    keys x = elim (cases_eq x at) [
      | inl same ↦ ap (λ n. order_key kind (link_at (set links at link) n)) same ∙ ap (λ (one : Link). order_key kind one) (get_or-set_same links at link no_link within) ∙ same_key ∙ ap (λ n. order_key kind (link_at links n)) (sym same)
      | inr other ↦ ap (λ (one : Link). order_key kind one) (get_or-set_other links at x link no_link other)
    ]

pub kept_by : (kind : OrderKind) (f : Link → Link) → ((x : Link) → order_key kind (f x) ≡ order_key kind x) → ((x : Link) → is_of kind (f x) ≡ is_of kind x) → (links : List Link) (at : ℕ) (x y : Link) (order : List ℕ)
    → at < length links → x ≡ get_or links at x → y ≡ f x → IsOrderOf kind links order → IsOrderOf kind (set links at y) order
kept_by kind f same_key same_kind links at x y order within is changed o =
    let here = link_here links at x within is in
    kept_order kind links at y order within
    (ap (λ (one : Link). order_key kind one) changed ∙ same_key x ∙ ap (λ (one : Link). order_key kind one) here)
    (ap (λ (one : Link). is_of kind one) changed ∙ same_kind x ∙ ap (λ (one : Link). is_of kind one) here) o

-- the order of a view of links
pub no_order : (kind : OrderKind) (links : List Link) (order : List ℕ) → links ≡ [] → order ≡ [] → IsOrderOf kind links order
no_order kind links order none empty =
    record {
      each = λ k inside. absurd (let zero_long = ap length empty in omega (arith, inside, zero_long));
      rises = λ j k past inside. absurd (let zero_long = ap length empty in omega (arith, inside, zero_long));
      all = λ x l. absurd (let w = l.within in let zero_long = ap length none in omega (arith, w, zero_long));
    }
