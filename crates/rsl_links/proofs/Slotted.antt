-- Slots: the links in the order in which they opened, with one more, less or changed.
use Rattle.std.proofs.Common.{◌≡◌, ◌≢◌, ℕ, zero, suc, ◌<◌, ◌≤◌, List, [], ◌∷◌, take, set, get_or, length, map, refl, ap, sym, ◌∙◌, subst, arith, inl, inr}
use Rattle.std.proofs.lemmas.Bool.{cases_lt, cases_eq}
use Rattle.std.proofs.lemmas.List.{get_or_default, get_or-map, get_or-set_other, get_or-set_same, get_or-take, length-map, length-set, length-take-le}
use Rattle.std.specs.Prelude.{vec_capacity}
use Rattle.rsl_links.specs.declared.link.Link.{Link}
use Rattle.rsl_links.specs.declared.slots.Slot.{Slot}
use Rattle.rsl_links.specs.First.{change_at}
use Rattle.rsl_links.specs.Order.{link_at, no_link}
use Rattle.rsl_links.specs.declared.slots.Slots.{Slots}
use Rattle.std.specs.Vec.{with_item}
use Rattle.rsl_links.specs.Slots.{AreSequenced, IsChanged, IsKept, IsRising, link_in, links_in, links_of, no_slot, opened_in, opened_of}

-- what stands at a position among the first
pub long_opened : (slots : List Slot) (sequence : List ℕ) (count : ℕ) → AreSequenced slots sequence count → length (take count sequence) ≡ count
long_opened slots sequence count p = length-take-le count sequence p.few

pub read_opened : (sequence : List ℕ) (count k : ℕ) → k < count → get_or (take count sequence) k 0 ≡ get_or sequence k 0
read_opened sequence count k low = get_or-take count sequence k 0 low

pub link_there : (slots : List Slot) (opened : List ℕ) (at : ℕ) → at < length opened → link_at (links_in slots opened) at ≡ link_in slots (get_or opened at 0)
link_there slots opened at within = get_or-map (link_in slots) opened at 0 no_link within

-- each position has a slot of its own
pub lower_there : (slots : List Slot) (opened : List ℕ) → IsRising slots opened → (p q : ℕ) → p < length opened → q < length opened
    → opened_in slots (get_or opened p 0) < opened_in slots (get_or opened q 0) → p < q
lower_there slots opened r p q one two less =
    elim (cases_lt p q) [
      | inl low ↦ low
      | inr high ↦ elim (cases_eq p q) [
        | inl same ↦ absurd (let e = ap (λ n. opened_in slots (get_or opened n 0)) same in omega (arith, less, e))
        | inr other ↦ absurd (let back = r.rises q p (omega (arith, high, other)) one in omega (arith, less, back))
      ]
    ]

pub same_there : (slots : List Slot) (opened : List ℕ) → IsRising slots opened → (p q : ℕ) → p < length opened → q < length opened → get_or opened p 0 ≡ get_or opened q 0 → p ≡ q
same_there slots opened r p q one two same =
    let e = ap (opened_in slots) same in
    elim (cases_eq p q) [
      | inl here ↦ here
      | inr other ↦ elim (cases_lt p q) [
        | inl low ↦ absurd (let up = r.rises p q low two in omega (arith, e, up))
        | inr high ↦ absurd (let up = r.rises q p (omega (arith, high, other)) one in omega (arith, e, up))
      ]
    ]

-- the links of slots that are alike where these stand
pub same_map : {A : Type 0} (f g : ℕ → A) (xs : List ℕ) → ((k : ℕ) → k < length xs → f (get_or xs k 0) ≡ g (get_or xs k 0)) → map f xs ≡ map g xs
same_map f g [] same = refl
same_map f g (x ∷ xs) same = ap (λ y. y ∷ map f xs) (same 0 (omega arith)) ∙ ap (λ ys. g x ∷ ys) (same_map f g xs (λ k within. same (suc k) (omega (arith, within))))

pub same_links : (slots others : List Slot) (opened : List ℕ) → ((k : ℕ) → k < length opened → link_in others (get_or opened k 0) ≡ link_in slots (get_or opened k 0)) → links_in others opened ≡ links_in slots opened
same_links slots others opened same = same_map (link_in others) (link_in slots) opened same

pub same_rising : (slots others : List Slot) (opened : List ℕ) → IsRising slots opened → length slots ≤ length others → ((k : ℕ) → k < length opened → opened_in others (get_or opened k 0) ≡ opened_in slots (get_or opened k 0)) → IsRising others opened
same_rising slots others opened r long same =
    record {
      within = λ k inside. let w = r.within k inside in omega (arith, w, long);
      rises = λ j k past inside. let one = same j (omega (arith, past, inside)) in let two = same k inside in let up = r.rises j k past inside in omega (arith, one, two, up);
      below = λ k inside. let one = same k inside in let most = r.below k inside in omega (arith, one, most);
    }

-- one is changed
change_map : (g h : ℕ → Link) (f : Link → Link) (xs : List ℕ) (at : ℕ) → ((k : ℕ) → k < length xs → k ≢ at → g (get_or xs k 0) ≡ h (get_or xs k 0)) → at < length xs → g (get_or xs at 0) ≡ f (h (get_or xs at 0))
    → map g xs ≡ change_at at f (map h xs)
unfolding change_at
change_map g h f [] at others within here = absurd (omega (arith, within))
change_map g h f (x ∷ xs) zero others within here =
    ap (λ y. y ∷ map g xs) here ∙ ap (λ ys. f (h x) ∷ ys) (same_map g h xs (λ k inside. others (suc k) (omega (arith, inside)) (omega arith)))
change_map g h f (x ∷ xs) (suc at) others within here =
    ap (λ y. y ∷ map g xs) (others 0 (omega arith) (omega arith))
    ∙ ap (λ ys. h x ∷ ys) (change_map g h f xs at (λ k inside other. others (suc k) (omega (arith, inside)) (omega (arith, other))) (omega (arith, within)) here)

slot_same : (slots : List Slot) (slot : ℕ) (x : Slot) → slot < length slots → x ≡ get_or slots slot x → x ≡ get_or slots slot no_slot
slot_same slots slot x within is = is ∙ get_or_default slots slot x no_slot within

module _ (slots : List Slot) (opened : List ℕ) (r : IsRising slots opened) (at slot : ℕ) (inside : at < length opened) (stands : slot ≡ get_or opened at 0) (x y : Slot) (is : x ≡ get_or slots slot x) where
  slot_within : slot < length slots
  slot_within = subst (λ n. n < length slots) (sym stands) (r.within at inside)

  others_kept : (k : ℕ) → k < length opened → k ≢ at → get_or (set slots slot y) (get_or opened k 0) no_slot ≡ get_or slots (get_or opened k 0) no_slot
  others_kept k within other = get_or-set_other slots slot (get_or opened k 0) y no_slot (λ e. other (same_there slots opened r k at within inside (e ∙ stands)))

  written : get_or (set slots slot y) (get_or opened at 0) no_slot ≡ y
  written = ap (λ n. get_or (set slots slot y) n no_slot) (sym stands) ∙ get_or-set_same slots slot y no_slot slot_within

  was : x ≡ get_or slots (get_or opened at 0) no_slot
  was = slot_same slots slot x slot_within is ∙ ap (λ n. get_or slots n no_slot) stands

  pub changed_links : (f : Link → Link) → y.link ≡ f x.link → links_in (set slots slot y) opened ≡ change_at at f (links_in slots opened)
  changed_links f changed =
      change_map (link_in (set slots slot y)) (link_in slots) f opened at (λ k within other. ap (λ (one : Slot). one.link) (others_kept k within other)) inside
      (ap (λ (one : Slot). one.link) written ∙ changed ∙ ap (λ (one : Slot). f one.link) was)

  pub changed_rising : y.opened ≡ x.opened → IsRising (set slots slot y) opened
  changed_rising kept =
      same_rising slots (set slots slot y) opened r (let long = length-set slots slot y in omega (arith, long))
      (λ k within. elim (cases_eq k at) [
        | inl here ↦ ap (λ n. opened_in (set slots slot y) (get_or opened n 0)) here ∙ ap (λ (one : Slot). one.opened) written ∙ kept ∙ ap (λ (one : Slot). one.opened) was ∙ ap (λ n. opened_in slots (get_or opened n 0)) (sym here)
        | inr other ↦ ap (λ (one : Slot). one.opened) (others_kept k within other)
      ])

-- the sequence are as they were, of as many slots
pub same_sequenced : (slots others : List Slot) (sequence : List ℕ) (count : ℕ) → AreSequenced slots sequence count → length others ≡ length slots → IsRising others (take count sequence) → AreSequenced others sequence count
same_sequenced slots others sequence count p long rising =
    record {
      few = p.few;
      all = (let all = p.all in omega (arith, all, long));
      within = λ k inside. let w = p.within k inside in omega (arith, w, long);
      apart = p.apart;
      rising = rising;
    }

pub long_links : (slots : Slots) → IsKept slots → length (links_of slots) ≡ slots.count
long_links slots k = length-map (opened_of slots) (link_in slots.slots.items) ∙ long_opened slots.slots.items slots.sequence.items slots.count k.sequenced

-- no more links than there is room for
pub few_links : (slots : Slots) → IsKept slots → slots.count ≤ vec_capacity slots.slots
few_links slots k = let few = k.sequenced.few in let fit = k.fit in omega (arith, few, fit)

-- the same of the fields of slots
pub changed : (slots : Slots) → IsKept slots → (f : Link → Link) (at slot : ℕ) → at < slots.count → slot ≡ get_or (opened_of slots) at 0 → (x : Slot) (y : Link) → x ≡ get_or slots.slots.items slot x → y ≡ f x.link
    → IsChanged at f slots (record slots { slots = with_item slots.slots slot (record x { link = y }) })
changed slots k f at slot within stands x y is changes =
    let long = long_opened slots.slots.items slots.sequence.items slots.count k.sequenced in
    let inside : at < length (opened_of slots) = omega (arith, within, long) in
    let after : Slot = record x { link = y } in
    record {
      kept = record {
        sequenced = same_sequenced slots.slots.items (set slots.slots.items slot after) slots.sequence.items slots.count k.sequenced (length-set slots.slots.items slot after)
            (changed_rising slots.slots.items (opened_of slots) k.sequenced.rising at slot inside stands x after is refl);
        fit = k.fit;
        room = k.room;
      };
      opened = refl;
      count = refl;
      links = changed_links slots.slots.items (opened_of slots) k.sequenced.rising at slot inside stands x after is f changes;
      room = refl;
    }
