-- Orders: what a split of one finds, and one with a number more or less.
use Rattle.std.proofs.Common.{◌≡◌, ◌≢◌, ℕ, zero, suc, ◌+◌, ◌-◌, ◌<◌, ◌≤◌, List, [], ◌∷◌, ◌++◌, take, drop, get_or, length, map, Bool, true, false, refl, ap, sym, ◌∙◌, subst, arith, ◌⊎◌, inl, inr}
use Rattle.std.specs.List.{insert, remove}
use Rattle.std.proofs.lemmas.Bool.{false≢true, cases_lt, cases_eq}
use Rattle.std.proofs.lemmas.List.{length-drop, length-map, get_or-map, drop_at, take_at}
use Rattle.std.proofs.lemmas.List.Edits.{get_or-insert_at, get_or-insert_below, get_or-insert_above, get_or-remove_below, get_or-remove_above, length-insert, length-remove}
use Rattle.rsl_links.specs.declared.slots.Slot.{Slot}
use Rattle.rsl_links.specs.declared.order.OrderKind.{OrderKind}
use Rattle.rsl_links.specs.Ranked.{IsSearchable, slot_key}
use Rattle.rsl_links.specs.Order.{Key, is_before, IsSplit, IsOrder, Stands}
use Rattle.rsl_links.proofs.Before.{not_self, chain}

-- the halves of a search
pub low_part : (kind : OrderKind) (slots : List Slot) (order : List ℕ) → IsSearchable kind slots order → (target : Key) (middle : ℕ) → middle < length order → is_before (slot_key kind slots (get_or order middle 0)) target ≡ true
    → (k : ℕ) → k < middle + 1 → is_before (slot_key kind slots (get_or order k 0)) target ≡ true
low_part kind slots order o target middle within low k upto =
    elim (cases_eq k middle) [
      | inl same ↦ ap (λ n. is_before (slot_key kind slots (get_or order n 0)) target) same ∙ low
      | inr other ↦ chain (slot_key kind slots (get_or order k 0)) (slot_key kind slots (get_or order middle 0)) target (o.rises k middle (omega (arith, other)) within) low
    ]

pub high_part : (kind : OrderKind) (slots : List Slot) (order : List ℕ) → IsSearchable kind slots order → (target : Key) (middle : ℕ) → is_before (slot_key kind slots (get_or order middle 0)) target ≡ false
    → (k : ℕ) → middle ≤ k → k < length order → is_before (slot_key kind slots (get_or order k 0)) target ≡ false
high_part kind slots order o target middle high k from within =
    elim (cases_eq k middle) [
      | inl same ↦ ap (λ n. is_before (slot_key kind slots (get_or order n 0)) target) same ∙ high
      | inr other ↦ by_cases (is_before (slot_key kind slots (get_or order k 0)) target) refl (omega (arith, other))
    ]
  where
    by_cases : (b : Bool) → is_before (slot_key kind slots (get_or order k 0)) target ≡ b → middle < k → is_before (slot_key kind slots (get_or order k 0)) target ≡ false
    by_cases true e past =
        absurd (false≢true (sym high ∙ chain (slot_key kind slots (get_or order middle 0)) (slot_key kind slots (get_or order k 0)) target (o.rises middle k past within) e))
    by_cases false e past = e

-- a number put before the others, after they were turned to the left and before they are turned back
pub turned_in : (xs turned more after : List ℕ) (rank at long : ℕ) → turned ≡ drop rank xs ++ take rank xs → more ≡ at ∷ turned
    → after ≡ drop (long - rank) more ++ take (long - rank) more → long ≡ length xs + 1 → rank ≤ length xs → after ≡ insert xs rank at
turned_in xs turned more after rank at long left put right one within =
    let rest = length-drop rank xs in
    let head : length (at ∷ drop rank xs) ≡ long - rank = omega (arith, rest, one, within) in
    let all : more ≡ (at ∷ drop rank xs) ++ take rank xs = put ∙ ap (λ ys. at ∷ ys) left in
    right
    ∙ ap (λ ys. drop (long - rank) ys ++ take (long - rank) ys) all
    ∙ ap (λ ys. ys ++ take (long - rank) ((at ∷ drop rank xs) ++ take rank xs)) (drop_at (at ∷ drop rank xs) (take rank xs) (long - rank) head)
    ∙ ap (λ ys. take rank xs ++ ys) (take_at (at ∷ drop rank xs) (take rank xs) (long - rank) head)

-- where the last stands before an entry, all do
pub split_at_end : (kind : OrderKind) (slots : List Slot) (order : List ℕ) → IsSearchable kind slots order → (target : Key) (end : ℕ) → end ≡ length order → 0 < end
    → is_before (slot_key kind slots (get_or order (end - 1) 0)) target ≡ true → IsSplit (slot_key kind slots) order target end
split_at_end kind slots order o target end long some low =
    record {
      within = omega (arith, long);
      before = λ k less. low_part kind slots order o target (end - 1) (omega (arith, long, some)) low k (omega (arith, less, some));
      after = λ k past inside. absurd (omega (arith, long, past, inside));
    }

pub read_less : (order : List ℕ) (at k : ℕ) → at < length order → k < length (remove order at)
    → ((k < at) × (get_or (remove order at) k 0 ≡ get_or order k 0)) ⊎ ((at ≤ k) × ((k + 1 < length order) × (get_or (remove order at) k 0 ≡ get_or order (k + 1) 0)))
read_less order at k within inside =
    let long = length-remove order at within in
    elim (cases_lt k at) [
      | inl low ↦ inl (low, get_or-remove_below order at 0 k low within)
      | inr high ↦ inr (high, (omega arith, get_or-remove_above order at 0 k high within))
    ]

read_more : (order : List ℕ) (at k x : ℕ) → at ≤ length order → k < length (insert order at x)
    → ((k < at) × ((k < length order) × (get_or (insert order at x) k 0 ≡ get_or order k 0)))
    ⊎ (((k ≡ at) × (get_or (insert order at x) k 0 ≡ x)) ⊎ ((at < k) × ((k - 1 < length order) × (get_or (insert order at x) k 0 ≡ get_or order (k - 1) 0))))
read_more order at k x within inside =
    let long = length-insert order at x within in
    elim (cases_lt k at) [
      | inl low ↦ inl (low, (omega (arith, low), get_or-insert_below order at x 0 k low within))
      | inr high ↦ elim (cases_eq k at) [
        | inl same ↦ inr (inl (same, ap (λ n. get_or (insert order at x) n 0) same ∙ get_or-insert_at order at x 0 within))
        | inr past ↦ (
            let back : k ≡ k - 1 + 1 = omega (arith, high, past) in
            inr (inr (omega (arith, high, past), (omega (arith, high, past), ap (λ n. get_or (insert order at x) n 0) back ∙ get_or-insert_above order at x 0 (k - 1) (omega (arith, high, past)) within)))
            )
      ]
    ]

module _ {listed : ℕ → Type 0} {entry : ℕ → Key} (order : List ℕ) (o : IsOrder listed entry order) where
  -- two ranks hold different numbers
  pub apart : (j k : ℕ) → j < k → k < length order → get_or order j 0 ≢ get_or order k 0
  apart j k past within same =
      false≢true (sym (not_self (entry (get_or order k 0))) ∙ subst (λ n. is_before (entry n) (entry (get_or order k 0)) ≡ true) same (o.rises j k past within))

  -- a number stands where the order is split before its own entry, or nowhere
  pub stands_at : (x at : ℕ) → IsSplit entry order (entry x) at → (s : Stands order x) → (at < length order) × (get_or order at 0 ≡ x)
  stands_at x at split s =
      elim (cases_lt s.at at) [
        | inl low ↦ absurd (false≢true (sym (not_self (entry x)) ∙ subst (λ n. is_before (entry n) (entry x) ≡ true) s.is (split.before s.at low)))
        | inr high ↦ elim (cases_eq s.at at) [
          | inl same ↦ (let w = s.within in omega (arith, w, same), sym (ap (λ n. get_or order n 0) same) ∙ s.is)
          | inr other ↦ absurd (let w = s.within in
              false≢true (sym (split.after at (omega arith) (omega (arith, w, high, other)))
              ∙ subst (λ n. is_before (entry (get_or order at 0)) (entry n) ≡ true) s.is (o.rises at s.at (omega (arith, high, other)) w)))
        ]
      ]

  -- without the number at a rank
  stands_less : (at x : ℕ) → at < length order → x ≢ get_or order at 0 → Stands order x → Stands (remove order at) x
  stands_less at x within other s =
      let long = length-remove order at within in
      let w = s.within in
      elim (cases_lt s.at at) [
        | inl low ↦ record { at = s.at; within = omega (arith, low); is = get_or-remove_below order at 0 s.at low within ∙ s.is }
        | inr high ↦ elim (cases_eq s.at at) [
          | inl same ↦ absurd (other (sym s.is ∙ ap (λ n. get_or order n 0) same))
          | inr past ↦ (
              let back : s.at - 1 + 1 ≡ s.at = omega (arith, high, past) in
              record {
                at = s.at - 1;
                within = omega (arith, high, past);
                is = get_or-remove_above order at 0 (s.at - 1) (omega (arith, high, past)) within ∙ ap (λ n. get_or order n 0) back ∙ s.is;
              }
              )
        ]
      ]

  pub removed : (P : ℕ → Type 0) (at x : ℕ) → at < length order → get_or order at 0 ≡ x
      → ((y : ℕ) → listed y → y ≢ x → P y) → ((y : ℕ) → P y → listed y) → ((y : ℕ) → P y → y ≢ x) → IsOrder P entry (remove order at)
  removed P at x within is into from but =
      record {
        each = λ k inside. elim (read_less order at k within inside) [
          | inl low ↦ subst P (sym low.1) (into (get_or order k 0) (o.each k (omega (arith, within, low.0))) (λ e. apart k at low.0 within (e ∙ sym is)))
          | inr high ↦ subst P (sym high.1.1) (into (get_or order (k + 1) 0) (o.each (k + 1) high.1.0) (λ e. apart at (k + 1) (omega (arith, high.0)) high.1.0 (is ∙ sym e)))
        ];
        rises = λ j k past inside. let long = length-remove order at within in elim (read_less order at j within (omega arith)) [
          | inl one ↦ elim (read_less order at k within inside) [
            | inl two ↦ by_reads j k (get_or (remove order at) j 0) (get_or (remove order at) k 0) one.1 two.1 (o.rises j k past (omega (arith, within, two.0)))
            | inr two ↦ by_reads j (k + 1) (get_or (remove order at) j 0) (get_or (remove order at) k 0) one.1 two.1.1 (o.rises j (k + 1) (omega (arith, past)) two.1.0)
          ]
          | inr one ↦ elim (read_less order at k within inside) [
            | inl two ↦ absurd (omega (arith, one.0, two.0, past))
            | inr two ↦ by_reads (j + 1) (k + 1) (get_or (remove order at) j 0) (get_or (remove order at) k 0) one.1.1 two.1.1 (o.rises (j + 1) (k + 1) (omega (arith, past)) two.1.0)
          ]
        ];
        all = λ y p. stands_less at y within (λ e. but y p (e ∙ is)) (o.all y (from y p));
      }
    where
      by_reads : (j k a b : ℕ) → a ≡ get_or order j 0 → b ≡ get_or order k 0 → is_before (entry (get_or order j 0)) (entry (get_or order k 0)) ≡ true → is_before (entry a) (entry b) ≡ true
      by_reads j k a b one two h = rw (one, two) h

  -- with a number more
  stands_more : (at x y : ℕ) → at ≤ length order → Stands order y → Stands (insert order at x) y
  stands_more at x y within s =
      let long = length-insert order at x within in
      let w = s.within in
      elim (cases_lt s.at at) [
        | inl low ↦ record { at = s.at; within = omega arith; is = get_or-insert_below order at x 0 s.at low within ∙ s.is }
        | inr high ↦ record { at = s.at + 1; within = omega arith; is = get_or-insert_above order at x 0 s.at high within ∙ s.is }
      ]

  pub inserted : (P : ℕ → Type 0) (at x : ℕ) → IsSplit entry order (entry x) at → P x
      → ((y : ℕ) → listed y → P y) → ((y : ℕ) → listed y → is_before (entry y) (entry x) ≡ false → is_before (entry x) (entry y) ≡ true)
      → ((y : ℕ) → P y → (y ≡ x) ⊎ listed y) → IsOrder P entry (insert order at x)
  inserted P at x split here into after from =
      let within = split.within in
      record {
        each = λ k inside. elim (read_more order at k x within inside) [
          | inl low ↦ subst P (sym low.1.1) (into (get_or order k 0) (o.each k low.1.0))
          | inr rest ↦ elim rest [
            | inl same ↦ subst P (sym same.1) here
            | inr high ↦ subst P (sym high.1.1) (into (get_or order (k - 1) 0) (o.each (k - 1) high.1.0))
          ]
        ];
        rises = λ j k past inside. let long = length-insert order at x within in elim (read_more order at j x within (omega (arith, past, inside))) [
          | inl one ↦ elim (read_more order at k x within inside) [
            | inl two ↦ both (get_or (insert order at x) j 0) (get_or (insert order at x) k 0) one.1.1 two.1.1 (o.rises j k past two.1.0)
            | inr rest ↦ elim rest [
              | inl two ↦ both (get_or (insert order at x) j 0) (get_or (insert order at x) k 0) one.1.1 two.1 (split.before j one.0)
              | inr two ↦ both (get_or (insert order at x) j 0) (get_or (insert order at x) k 0) one.1.1 two.1.1 (o.rises j (k - 1) (omega (arith, one.0, two.0)) two.1.0)
            ]
          ]
          | inr first ↦ elim first [
            | inl one ↦ elim (read_more order at k x within inside) [
              | inl two ↦ absurd (omega (arith, one.0, two.0, past))
              | inr rest ↦ elim rest [
                | inl two ↦ absurd (omega (arith, one.0, two.0, past))
                | inr two ↦ both (get_or (insert order at x) j 0) (get_or (insert order at x) k 0) one.1 two.1.1 (
                    after (get_or order (k - 1) 0) (o.each (k - 1) two.1.0) (split.after (k - 1) (omega (arith, two.0)) two.1.0))
              ]
            ]
            | inr one ↦ elim (read_more order at k x within inside) [
              | inl two ↦ absurd (omega (arith, one.0, two.0, past))
              | inr rest ↦ elim rest [
                | inl two ↦ absurd (omega (arith, one.0, two.0, past))
                | inr two ↦ both (get_or (insert order at x) j 0) (get_or (insert order at x) k 0) one.1.1 two.1.1 (o.rises (j - 1) (k - 1) (omega (arith, past, one.0)) two.1.0)
              ]
            ]
          ]
        ];
        all = λ y p. elim (from y p) [
          | inl same ↦ (
              let long = length-insert order at x within in
              record { at = at; within = omega arith; is = get_or-insert_at order at x 0 within ∙ sym same }
              )
          | inr listed ↦ stands_more at x y within (o.all y listed)
        ];
      }
    where
      both : (a b : ℕ) {c d : ℕ} → a ≡ c → b ≡ d → is_before (entry c) (entry d) ≡ true → is_before (entry a) (entry b) ≡ true
      both a b one two h = rw (one, two) h

-- an order of the same numbers, whose entries are the same
pub same_order : {listed P : ℕ → Type 0} {entry other : ℕ → Key} (order : List ℕ) → IsOrder listed entry order
    → ((x : ℕ) → listed x → P x) → ((x : ℕ) → P x → listed x) → ((x : ℕ) → listed x → other x ≡ entry x) → IsOrder P other order
same_order order o into from same =
    record {
      each = λ k inside. into (get_or order k 0) (o.each k inside);
      rises = λ j k past inside.
          rw (same (get_or order j 0) (o.each j (omega (arith, past, inside))), same (get_or order k 0) (o.each k inside)) (o.rises j k past inside);
      all = λ x p. o.all x (from x p);
    }

-- an order of what the numbers become
pub record Came (listed : ℕ → Type 0) (becomes : ℕ → ℕ) (y : ℕ) : Type 0 where
  pub from : ℕ
  pub listed_there : listed from
  pub is : becomes from ≡ y

pub mapped : {listed P : ℕ → Type 0} {entry other : ℕ → Key} (order : List ℕ) (f : ℕ → ℕ) → IsOrder listed entry order
    → ((x : ℕ) → listed x → P (f x))
    → ((x y : ℕ) → listed x → listed y → is_before (entry x) (entry y) ≡ true → is_before (other (f x)) (other (f y)) ≡ true)
    → ((y : ℕ) → P y → Came listed f y) → IsOrder P other (map f order)
mapped {listed} {P} {entry} {other} order f o into rises from =
    let long : length (map f order) ≡ length order = length-map order f in
    let read : (k : ℕ) → k < length order → get_or (map f order) k 0 ≡ f (get_or order k 0) = λ k w. get_or-map f order k 0 0 w in
    record {
      each = λ k inside. subst P (sym (read k (omega (arith, inside)))) (into (get_or order k 0) (o.each k (omega (arith, inside))));
      rises = λ j k past inside.
          rw (read j (omega (arith, past, inside)), read k (omega (arith, inside)))
          (rises (get_or order j 0) (get_or order k 0) (o.each j (omega (arith, past, inside))) (o.each k (omega (arith, inside))) (o.rises j k past (omega (arith, inside))));
      all = λ y p.
          let came = from y p in
          let s = o.all came.from came.listed_there in
          let w = s.within in
          record { at = s.at; within = omega (arith, w); is = read s.at w ∙ ap f s.is ∙ came.is };
    }

-- as many numbers as there are below a bound, at most
look : (x : ℕ) (xs : List ℕ) → Stands xs x ⊎ ((k : ℕ) → k < length xs → get_or xs k 0 ≢ x)
look x [] = inr (λ k within. absurd (omega (arith, within)))
look x (y ∷ ys) =
    elim (cases_eq y x) [
      | inl same ↦ inl (record { at = 0; within = omega arith; is = same })
      | inr other ↦ elim (look x ys) [
        | inl s ↦ inl (record { at = suc s.at; within = (let w = s.within in omega (arith, w)); is = s.is })
        | inr none ↦ inr (λ k within. later other none k within)
      ]
    ]
  where
    later : y ≢ x → ((k : ℕ) → k < length ys → get_or ys k 0 ≢ x) → (k : ℕ) → k < suc (length ys) → get_or (y ∷ ys) k 0 ≢ x
    later other none zero within = other
    later other none (suc k) within = none k (omega (arith, within))

pub few : (n : ℕ) (xs : List ℕ) → ((k : ℕ) → k < length xs → get_or xs k 0 < n) → ((j k : ℕ) → j < k → k < length xs → get_or xs j 0 ≢ get_or xs k 0) → length xs ≤ n
few zero [] below apart = omega arith
few zero (x ∷ xs) below apart = absurd (let none = below 0 (omega arith) in omega (arith, none))
few (suc n) xs below apart =
    elim (look n xs) [
      | inl s ↦ (
          let long = length-remove xs s.at s.within in
          let rest = few n (remove xs s.at) (λ k inside. lower s k inside) (λ j k past inside. still s j k past inside) in
          omega (arith, long, rest)
          )
      | inr none ↦ (
          let rest = few n xs (λ k inside. let one = below k inside in let two = none k inside in omega (arith, one, two)) apart in
          omega (arith, rest)
          )
    ]
  where
    lower : (s : Stands xs n) (k : ℕ) → k < length (remove xs s.at) → get_or (remove xs s.at) k 0 < n
    lower s k inside =
        elim (read_less xs s.at k s.within inside) [
          | inl low ↦ (
              let one = below k (let w = s.within in omega (arith, w, low.0)) in
              let two : get_or xs k 0 ≢ n = λ e. apart k s.at low.0 s.within (e ∙ sym s.is) in
              let same = low.1 in omega (arith, one, two, same)
              )
          | inr high ↦ (
              let one = below (k + 1) high.1.0 in
              let two : get_or xs (k + 1) 0 ≢ n = λ e. apart s.at (k + 1) (omega (arith, high.0)) high.1.0 (s.is ∙ sym e) in
              let same = high.1.1 in omega (arith, one, two, same)
              )
        ]

    still : (s : Stands xs n) (j k : ℕ) → j < k → k < length (remove xs s.at) → get_or (remove xs s.at) j 0 ≢ get_or (remove xs s.at) k 0
    still s j k past inside =
        let long = length-remove xs s.at s.within in
        elim (read_less xs s.at j s.within (omega (arith, past, inside))) [
          | inl one ↦ elim (read_less xs s.at k s.within inside) [
            | inl two ↦ λ e. apart j k past (let w = s.within in omega (arith, w, two.0)) (sym one.1 ∙ e ∙ two.1)
            | inr two ↦ λ e. apart j (k + 1) (omega (arith, past)) two.1.0 (sym one.1 ∙ e ∙ two.1.1)
          ]
          | inr one ↦ elim (read_less xs s.at k s.within inside) [
            | inl two ↦ absurd (omega (arith, one.0, two.0, past))
            | inr two ↦ λ e. apart (j + 1) (k + 1) (omega (arith, past)) two.1.0 (sym one.1.1 ∙ e ∙ two.1.1)
          ]
        ]
