-- What the first of an order tells of the others: none lapses where it does not, and none was touched before it.
use Rattle.std.proofs.Common.{◌≡◌, ℕ, zero, suc, ◌-◌, ◌<◌, ◌≤◌, List, ◌∷◌, [], get_or, length, Bool, true, false, refl, ap, sym, ◌∙◌, subst, arith, inl, inr, ◌⊎◌}
use Rattle.std.specs.Prelude.{Option, Some, None, IfNone, is_some, nat_le, ◌==◌}
use Rattle.std.proofs.lemmas.Bool.{false≢true, cases_lt, cases_eq, eqb-true, lt-leb, le-leb}
use Rattle.rsl_accounts.specs.declared.rules.Rules.{Rules}
use Rattle.rsl_event.specs.declared.nas.Nas.{Nas}
use Rattle.rsl_session.specs.BookLinks.{lapses_at, time_of}
use Rattle.rsl_links.specs.declared.link.Link.{Link}
use Rattle.rsl_links.specs.declared.link.Holder.{Holder as LinkHolder}
use Rattle.rsl_links.specs.declared.link.Holder.TheVariants.{Reserved as LinkReserved, Bound as LinkBound}
use Rattle.rsl_links.specs.declared.order.OrderKind.{OrderKind}
use Rattle.rsl_links.specs.declared.order.OrderKind.TheVariants.{Reserved, Bound, Sessions, Bundles, Stations}
use Rattle.rsl_links.specs.Order.{key_at, is_before, is_by_touch, holds_number, is_of, holds_session, link_at, IsOrderOf}
use Rattle.rsl_links.specs.LinkList.{IsOldest}
use Rattle.rsl_links.specs.Seen.{holder_at, link_seen, server_at}
use Rattle.rsl_links.proofs.Before.{touched_order}

numbers_alike : (rules : Rules) (n m : Nas) (a b : LinkHolder) → holds_number a ≡ true → holds_number b ≡ true → time_of rules (holder_at n a) ≡ time_of rules (holder_at m b)
numbers_alike rules n m (LinkReserved a) (LinkReserved b) one two = refl
numbers_alike rules n m (LinkReserved a) (LinkBound b) one two = absurd (false≢true two)
numbers_alike rules n m (LinkBound a) b one two = absurd (false≢true one)

sessions_alike : (rules : Rules) (n m : Nas) (a b : LinkHolder) → holds_session a ≡ true → holds_session b ≡ true → time_of rules (holder_at n a) ≡ time_of rules (holder_at m b)
sessions_alike rules n m (LinkBound a) (LinkBound b) one two = refl
sessions_alike rules n m (LinkBound a) (LinkReserved b) one two = absurd (false≢true two)
sessions_alike rules n m (LinkReserved a) b one two = absurd (false≢true one)

time_kept : (rules : Rules) (kind : OrderKind) → is_by_touch kind ≡ true → (n m : Nas) (f x : Link) → is_of kind f ≡ true → is_of kind x ≡ true → time_of rules (holder_at n f.holder) ≡ time_of rules (holder_at m x.holder)
time_kept rules Reserved is n m f x one two = numbers_alike rules n m f.holder x.holder one two
time_kept rules Bound is n m f x one two = sessions_alike rules n m f.holder x.holder one two
time_kept rules Sessions is n m f x one two = absurd (false≢true is)
time_kept rules Bundles is n m f x one two = absurd (false≢true is)
time_kept rules Stations is n m f x one two = absurd (false≢true is)

stays : (time a b now : ℕ) → a ≤ b → nat_le time (now - a) ≡ false → nat_le time (now - b) ≡ false
stays time a b now later none =
    elim (cases_lt (now - b) time) [
      | inl low ↦ lt-leb time (now - b) low
      | inr high ↦ absurd (false≢true (sym none ∙ le-leb time (now - a) (omega (arith, high, later))))
    ]

later_stays : (servers : List Nas) (rules : Rules) (now : ℕ) (kind : OrderKind) → is_by_touch kind ≡ true → (f x : Link) → is_of kind f ≡ true → is_of kind x ≡ true → f.touched ≤ x.touched
    → lapses_at rules now (link_seen servers f) ≡ false → lapses_at rules now (link_seen servers x) ≡ false
unfolding lapses_at link_seen
later_stays servers rules now kind is f x one two later none =
    let time = time_kept rules kind is (server_at servers f.nas) (server_at servers x.nas) f x one two in
    stays _ f.touched x.touched now later (sym (ap (λ t. nat_le t (now - f.touched)) time) ∙ none)

by_touch : (kind : OrderKind) → is_by_touch kind ≡ true → (links : List Link) (a b : ℕ) → is_before (key_at kind links a) (key_at kind links b) ≡ true
    → is_before ((link_at links a).touched ∷ [], a) ((link_at links b).touched ∷ [], b) ≡ true
by_touch Reserved is links a b h = h
by_touch Bound is links a b h = h
by_touch Sessions is links a b h = absurd (false≢true is)
by_touch Bundles is links a b h = absurd (false≢true is)
by_touch Stations is links a b h = absurd (false≢true is)

-- the first of an order was touched no later than any other
pub first_touched : (kind : OrderKind) → is_by_touch kind ≡ true → (links : List Link) (order : List ℕ) → IsOrderOf kind links order → (x : ℕ) → x < length links → is_of kind (link_at links x) ≡ true
    → (x ≡ get_or order 0 0) ⊎ (((link_at links (get_or order 0 0)).touched < (link_at links x).touched)
    ⊎ (((link_at links (get_or order 0 0)).touched ≡ (link_at links x).touched) × (get_or order 0 0 < x)))
first_touched kind is links order o x within here =
    let s = o.all x (record { within = within; other = omega (arith, within); of_kind = here }) in
    elim (cases_eq s.at zero) [
      | inl same ↦ inl (sym s.is ∙ ap (λ n. get_or order n 0) same)
      | inr other ↦ inr (touched_order (link_at links (get_or order 0 0)).touched (link_at links x).touched (get_or order 0 0) x
          (by_touch kind is links (get_or order 0 0) x (subst (λ n. is_before (key_at kind links (get_or order 0 0)) (key_at kind links n) ≡ true) s.is (o.rises zero s.at (omega (arith, other)) s.within))))
    ]

pub none_lapses : (servers : List Nas) (rules : Rules) (now : ℕ) (kind : OrderKind) → is_by_touch kind ≡ true → (links : List Link) (order : List ℕ) → IsOrderOf kind links order → 0 < length order
    → lapses_at rules now (link_seen servers (link_at links (get_or order 0 0))) ≡ false
    → (x : ℕ) → x < length links → is_of kind (link_at links x) ≡ true → lapses_at rules now (link_seen servers (link_at links x)) ≡ false
none_lapses servers rules now kind is links order o some none x within here =
    elim (first_touched kind is links order o x within here) [
      | inl same ↦ ap (λ n. lapses_at rules now (link_seen servers (link_at links n))) same ∙ none
      | inr rest ↦ elim rest [
        | inl less ↦ later_stays servers rules now kind is (link_at links (get_or order 0 0)) (link_at links x) (o.each 0 some).of_kind here (omega (arith, less)) none
        | inr tied ↦ (let same = tied.0 in later_stays servers rules now kind is (link_at links (get_or order 0 0)) (link_at links x) (o.each 0 some).of_kind here (omega (arith, same)) none)
      ]
    ]

-- an empty order has no links of its kind
pub none_of : (kind : OrderKind) (links : List Link) (order : List ℕ) → IsOrderOf kind links order → length order ≡ 0 → (x : ℕ) → x < length links → is_of kind (link_at links x) ≡ false
none_of kind links order o empty x within = by_cases (is_of kind (link_at links x)) refl where
  by_cases : (b : Bool) → is_of kind (link_at links x) ≡ b → is_of kind (link_at links x) ≡ false
  by_cases true e =
      absurd (let s = o.all x (record { within = within; other = omega (arith, within); of_kind = e }) in let w = s.within in omega (arith, w, empty))
  by_cases false e = e

pub oldest_first : (links : List Link) (order : List ℕ) → IsOrderOf Bound links order → 0 < length order → IsOldest (is_of Bound) links (get_or order 0 0)
oldest_first links order o some =
    let front = o.each 0 some in
    record {
      within = front.within;
      passed = front.of_kind;
      oldest = λ x within here. elim (first_touched Bound refl links order o x within here) [
        | inl same ↦ (let e = ap (λ n. (link_at links n).touched) same in omega (arith, e))
        | inr rest ↦ elim rest [
          | inl less ↦ omega (arith, less)
          | inr tied ↦ (let e = tied.0 in omega (arith, e))
        ]
      ];
      first = λ x low here. let w = front.within in elim (first_touched Bound refl links order o x (omega (arith, low, w)) here) [
        | inl same ↦ absurd (omega (arith, low, same))
        | inr rest ↦ elim rest [
          | inl less ↦ less
          | inr tied ↦ absurd (let past = tied.1 in omega (arith, low, past))
        ]
      ];
    }

pub some_there : (n : ℕ) (r : Bool) → r ≡ (n == 0) → r ≡ false → 0 < n
some_there zero r is none = absurd (false≢true (sym none ∙ is))
some_there (suc n) r is none = omega arith

pub none_there : (n : ℕ) (r : Bool) → r ≡ (n == 0) → r ≡ true → n ≡ 0
none_there n r is all = eqb-true n 0 (sym is ∙ all)

-- no link lapses where none of those that are reserved does, and none of those that are bound
each_holder : (holder : LinkHolder) → (holds_number holder ≡ true) ⊎ (holds_session holder ≡ true)
each_holder (LinkReserved number) = inl refl
each_holder (LinkBound id) = inr refl

pub none_lapses_of_both : (servers : List Nas) (rules : Rules) (now : ℕ) (links : List Link)
    → ((at : ℕ) → at < length links → is_of Reserved (link_at links at) ≡ true → lapses_at rules now (link_seen servers (link_at links at)) ≡ false)
    → ((at : ℕ) → at < length links → is_of Bound (link_at links at) ≡ true → lapses_at rules now (link_seen servers (link_at links at)) ≡ false)
    → (at : ℕ) → at < length links → lapses_at rules now (link_seen servers (link_at links at)) ≡ false
none_lapses_of_both servers rules now links none_reserved none_bound at within =
    elim (each_holder (link_at links at).holder) [
      | inl is ↦ none_reserved at within is
      | inr is ↦ none_bound at within is
    ]

-- what stands where nothing was found
pub where_none : (found : Option ℕ) (P : Type 0) → is_some found ≡ false → IfNone found P → P
where_none None P none then = then
where_none (Some at) P none then = absurd (false≢true (sym none))

pub not_none : (found : Option ℕ) (P : Type 0) → is_some found ≡ true → IfNone found P
not_none None P some = absurd (false≢true some)
not_none (Some at) P some = tt
