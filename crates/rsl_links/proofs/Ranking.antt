-- Orders as lists of slots: what a search of one tells of the positions, and the same links with one less, more or changed.
use Rattle.std.proofs.Common.{◌≡◌, ◌≢◌, ℕ, zero, suc, ◌+◌, ◌-◌, ◌<◌, List, [], ◌∷◌, ◌++◌, take, drop, set, get_or, length, map, Bool, true, false, refl, ap, sym, ◌∙◌, subst, arith, inl, inr}
use Rattle.std.specs.List.{insert, remove}
use Rattle.std.proofs.lemmas.Bool.{cases_lt, false≢true}
use Rattle.std.proofs.lemmas.List.{drop-map, get_or_append_left, get_or_default, get_or-map, length-map, map-append, take-map}
use Rattle.std.proofs.lemmas.List.Edits.{get_or-remove_below, get_or-remove_above}
use Rattle.rsl_links.specs.declared.link.Link.{Link}
use Rattle.rsl_links.specs.declared.order.OrderKind.{OrderKind}
use Rattle.rsl_links.specs.declared.slots.Slot.{Slot}
use Rattle.rsl_links.specs.declared.slots.Slots.{Slots}
use Rattle.rsl_links.specs.First.{change_at}
use Rattle.rsl_links.specs.Ranked.{AreRankedBut, IsRankedIn, AreRankedOf, IsSearchable, slot_key}
use Rattle.rsl_links.specs.Order.{Key, IsOrderBut, IsOrderOf, IsSplit, Stands, is_before, is_of, link_at, no_link, order_key, key_at}
use Rattle.rsl_links.specs.Slots.{IsChanged, IsLess, IsMore, IsRising, link_in, links_in, links_of, no_slot, opened_in, opened_of}
use Rattle.rsl_links.proofs.Before.{moved_before}
use Rattle.rsl_links.proofs.Found.{length-change_at, set_is_change}
use Rattle.rsl_links.proofs.OfLinks.{changed_but, closed, entered, few_others, grown, kept_by, listed_here, moved_up, no_order, not_entered, not_there, up_above, up_below, withdrawn}
use Rattle.rsl_links.proofs.Orders.{stands_at}
use Rattle.rsl_links.proofs.Slotted.{link_there, lower_there, same_map, same_there}

-- what is read of a slot, and of one that an order lists
pub entry_here : (kind : OrderKind) (slots : List Slot) (at : ℕ) (slot : Slot) → at < length slots → slot ≡ get_or slots at slot → (order_key kind slot.link, slot.opened) ≡ slot_key kind slots at
entry_here kind slots at slot within is = ap (λ (one : Slot). (order_key kind one.link, one.opened)) (is ∙ get_or_default slots at slot no_slot within)

pub listed_within : (kind : OrderKind) (slots : List Slot) (order : List ℕ) → IsSearchable kind slots order → (k at : ℕ) → k < length order → at ≡ get_or order k at → at < length slots
listed_within kind slots order o k at inside is = subst (λ n. n < length slots) (sym (listed_here order k at inside is)) (o.within k inside)

pub listed_entry : (kind : OrderKind) (slots : List Slot) (order : List ℕ) → IsSearchable kind slots order → (k at : ℕ) (slot : Slot) → k < length order → at ≡ get_or order k at → slot ≡ get_or slots at slot
    → (order_key kind slot.link, slot.opened) ≡ slot_key kind slots (get_or order k 0)
listed_entry kind slots order o k at slot inside is here =
    entry_here kind slots at slot (listed_within kind slots order o k at inside is) here
    ∙ ap (slot_key kind slots) (listed_here order k at inside is)

-- numbers that compare as others do
alike : (s t : List ℕ) (a b c d : ℕ) → (a < b → c < d) → (c < d → a < b) → is_before (s, a) (t, b) ≡ is_before (s, c) (t, d)
alike s t a b c d one two = by_cases (is_before (s, a) (t, b)) (is_before (s, c) (t, d)) refl refl where
  by_cases : (x y : Bool) → is_before (s, a) (t, b) ≡ x → is_before (s, c) (t, d) ≡ y → is_before (s, a) (t, b) ≡ is_before (s, c) (t, d)
  by_cases true true e f = e ∙ sym f
  by_cases false false e f = e ∙ sym f
  by_cases true false e f = absurd (false≢true (sym f ∙ moved_before s t a b c d one e))
  by_cases false true e f = absurd (false≢true (sym e ∙ moved_before s t c d a b two f))

map_remove : (f : ℕ → ℕ) (xs : List ℕ) (at : ℕ) → map f (remove xs at) ≡ remove (map f xs) at
map_remove f xs at =
    map-append f (take at xs) (drop (suc at) xs)
    ∙ ap (λ ys. ys ++ map f (drop (suc at) xs)) (sym (take-map f at xs))
    ∙ ap (λ ys. take at (map f xs) ++ ys) (sym (drop-map f (suc at) xs))

map_insert : (f : ℕ → ℕ) (xs : List ℕ) (at x : ℕ) → map f (insert xs at x) ≡ insert (map f xs) at (f x)
map_insert f xs at x =
    map-append f (take at xs) (x ∷ drop at xs)
    ∙ ap (λ ys. ys ++ f x ∷ map f (drop at xs)) (sym (take-map f at xs))
    ∙ ap (λ ys. take at (map f xs) ++ f x ∷ ys) (sym (drop-map f at xs))

through : (f g h : ℕ → ℕ) (xs : List ℕ) → ((k : ℕ) → k < length xs → f (get_or xs k 0) ≡ g (h (get_or xs k 0))) → map f xs ≡ map g (map h xs)
through f g h [] same = refl
through f g h (x ∷ xs) same = ap (λ y. y ∷ map f xs) (same 0 (omega arith)) ∙ ap (λ ys. g (h x) ∷ ys) (through f g h xs (λ k within. same (suc k) (omega (arith, within))))

abbrev slot_of : List ℕ → ℕ → ℕ
slot_of opened at = get_or opened at 0

module _ (kind : OrderKind) (links : List Link) (opened : List ℕ) (but : ℕ) (order : List ℕ) (ranked : IsRankedIn kind links opened but order) where
  pub long_ranked : length order ≡ length ranked.positions
  long_ranked = ap length ranked.is ∙ length-map ranked.positions (λ (at : ℕ). get_or opened at 0)

  pub read_ranked : (k : ℕ) → k < length order → get_or order k 0 ≡ get_or opened (get_or ranked.positions k 0) 0
  read_ranked k within =
      ap (λ (xs : List ℕ). get_or xs k 0) ranked.is ∙ get_or-map (λ (at : ℕ). get_or opened at 0) ranked.positions k 0 0 (let long = long_ranked in omega (arith, long, within))

  pub inside_ranked : (k : ℕ) → k < length order → get_or ranked.positions k 0 < length links
  inside_ranked k within = (ranked.in_order.each k (let long = long_ranked in omega (arith, long, within))).within

-- what a search by slots tells
module _ (kind : OrderKind) (slots : List Slot) (opened : List ℕ) (r : IsRising slots opened) (but : ℕ) (order : List ℕ) (ranked : IsRankedIn kind (links_in slots opened) opened but order) where
  long_links : length (links_in slots opened) ≡ length opened
  long_links = length-map opened (link_in slots)

  inside : (k : ℕ) → k < length order → get_or ranked.positions k 0 < length opened
  inside k within = let long = long_links in let low = inside_ranked kind (links_in slots opened) opened but order ranked k within in omega (arith, long, low)

  key_there : (k : ℕ) → k < length order → slot_key kind slots (get_or order k 0) ≡ (order_key kind (link_at (links_in slots opened) (get_or ranked.positions k 0)), opened_in slots (get_or opened (get_or ranked.positions k 0) 0))
  key_there k within =
      ap (slot_key kind slots) (read_ranked kind (links_in slots opened) opened but order ranked k within)
      ∙ ap (λ (one : Link). (order_key kind one, opened_in slots (get_or opened (get_or ranked.positions k 0) 0))) (sym (link_there slots opened (get_or ranked.positions k 0) (inside k within)))

  pub link_ranked : (k : ℕ) → k < length order → link_in slots (get_or order k 0) ≡ link_at (links_in slots opened) (get_or ranked.positions k 0)
  link_ranked k within =
      ap (link_in slots) (read_ranked kind (links_in slots opened) opened but order ranked k within) ∙ sym (link_there slots opened (get_or ranked.positions k 0) (inside k within))

  pub searchable : IsSearchable kind slots order
  searchable =
      record {
        within = λ k within. let read = read_ranked kind (links_in slots opened) opened but order ranked k within in let w = r.within (get_or ranked.positions k 0) (inside k within) in omega (arith, read, w);
        rises = λ j k past within.
            let long = long_ranked kind (links_in slots opened) opened but order ranked in
            let before : j < length order = omega (arith, past, within) in
            subst (λ (e : Key). is_before e (slot_key kind slots (get_or order k 0)) ≡ true) (sym (key_there j before))
            (subst (λ (e : Key). is_before (order_key kind (link_at (links_in slots opened) (get_or ranked.positions j 0)), opened_in slots (get_or opened (get_or ranked.positions j 0) 0)) e ≡ true) (sym (key_there k within))
            (moved_before _ _ (get_or ranked.positions j 0) (get_or ranked.positions k 0) _ _ (λ low. r.rises (get_or ranked.positions j 0) (get_or ranked.positions k 0) low (inside k within))
            (ranked.in_order.rises j k past (omega (arith, long, within)))));
      }

  split_seen : (t : List ℕ) (number at rank : ℕ) → ((p : ℕ) → p < length opened → opened_in slots (get_or opened p 0) < number → p < at)
      → ((p : ℕ) → p < length opened → p < at → opened_in slots (get_or opened p 0) < number)
      → IsSplit (slot_key kind slots) order (t, number) rank → IsSplit (key_at kind (links_in slots opened)) ranked.positions (t, at) rank
  split_seen t number at rank into from split =
      let long = long_ranked kind (links_in slots opened) opened but order ranked in
      record {
        within = (let most = split.within in omega (arith, long, most));
        before = λ k low. let most = split.within in let within : k < length order = omega (arith, low, most) in sym (seen k within) ∙ split.before k low;
        after = λ k high within. let inside_order : k < length order = omega (arith, long, within) in sym (seen k inside_order) ∙ split.after k high inside_order;
      }
    where
      seen : (k : ℕ) → k < length order → is_before (slot_key kind slots (get_or order k 0)) (t, number) ≡ is_before (key_at kind (links_in slots opened) (get_or ranked.positions k 0)) (t, at)
      seen k within =
          ap (λ (e : Key). is_before e (t, number)) (key_there k within)
          ∙ alike _ t (opened_in slots (get_or opened (get_or ranked.positions k 0) 0)) number (get_or ranked.positions k 0) at (into (get_or ranked.positions k 0) (inside k within)) (from (get_or ranked.positions k 0) (inside k within))

  pub split_first : (t : List ℕ) (rank : ℕ) → IsSplit (slot_key kind slots) order (t, 0) rank → IsSplit (key_at kind (links_in slots opened)) ranked.positions (t, 0) rank
  split_first t rank split = split_seen t 0 0 rank (λ p within low. absurd (omega (arith, low))) (λ p within low. absurd (omega (arith, low))) split

  pub split_last : (t : List ℕ) (rank : ℕ) → IsSplit (slot_key kind slots) order (t, 18446744073709551615) rank → IsSplit (key_at kind (links_in slots opened)) ranked.positions (t, length (links_in slots opened)) rank
  split_last t rank split = split_seen t 18446744073709551615 (length (links_in slots opened)) rank (λ p within low. let long = long_links in omega (arith, long, within)) (λ p within low. r.below p within) split

  pub split_own : (at rank : ℕ) → at < length opened → IsSplit (slot_key kind slots) order (slot_key kind slots (get_or opened at 0)) rank
      → IsSplit (key_at kind (links_in slots opened)) ranked.positions (key_at kind (links_in slots opened) at) rank
  split_own at rank within split =
      let t = order_key kind (link_at (links_in slots opened) at) in
      split_seen t (opened_in slots (get_or opened at 0)) at rank
      (λ p low less. lower_there slots opened r p at low within less) (λ p low less. r.rises p at less within)
      (subst (λ (e : Key). IsSplit (slot_key kind slots) order e rank) (ap (λ (one : Link). (order_key kind one, opened_in slots (get_or opened at 0))) (sym (link_there slots opened at within))) split)

  -- what stands at a rank of it
  pub ranked_stands : (k slot : ℕ) → k < length order → slot ≡ get_or order k slot → Stands opened slot
  ranked_stands k slot within is =
      record {
        at = get_or ranked.positions k 0;
        within = inside k within;
        is = sym (listed_here order k slot within is ∙ read_ranked kind (links_in slots opened) opened but order ranked k within);
      }

  pub ranked_link : (k slot : ℕ) (one : Slot) → k < length order → slot ≡ get_or order k slot → one ≡ get_or slots slot one → one.link ≡ link_at (links_in slots opened) (get_or ranked.positions k 0)
  ranked_link k slot one within is here =
      let stands : slot ≡ get_or opened (get_or ranked.positions k 0) 0 = listed_here order k slot within is ∙ read_ranked kind (links_in slots opened) opened but order ranked k within in
      let low : slot < length slots = subst (λ n. n < length slots) (sym stands) (r.within (get_or ranked.positions k 0) (inside k within)) in
      ap (λ (x : Slot). x.link) (here ∙ get_or_default slots slot one no_slot low) ∙ ap (link_in slots) stands ∙ sym (link_there slots opened (get_or ranked.positions k 0) (inside k within))

  pub ranked_found : (k slot at : ℕ) → k < length order → slot ≡ get_or order k slot → at < length opened → get_or opened at 0 ≡ slot → at ≡ get_or ranked.positions k 0
  ranked_found k slot at within is low stands =
      same_there slots opened r at (get_or ranked.positions k 0) low (inside k within)
      (stands ∙ listed_here order k slot within is ∙ read_ranked kind (links_in slots opened) opened but order ranked k within)

-- the links of an order, one less, or one more
module _ (kind : OrderKind) (slots : List Slot) (opened : List ℕ) (r : IsRising slots opened) (order : List ℕ) (at : ℕ) (within : at < length opened) where
  inside_links : at < length (links_in slots opened)
  inside_links = let long = length-map opened (link_in slots) in omega (arith, long, within)

  pub there : IsRankedIn kind (links_in slots opened) opened (length (links_in slots opened)) order → is_of kind (link_at (links_in slots opened) at) ≡ true → (rank : ℕ)
      → IsSplit (slot_key kind slots) order (slot_key kind slots (get_or opened at 0)) rank → (rank < length order) × (get_or order rank 0 ≡ get_or opened at 0)
  there ranked here rank split =
      let links = links_in slots opened in
      let own = split_own kind slots opened r (length links) order ranked at rank within split in
      let found = stands_at ranked.positions ranked.in_order at rank own (ranked.in_order.all at (record { within = inside_links; other = (let w = inside_links in omega (arith, w)); of_kind = here })) in
      let long = long_ranked kind links opened (length links) order ranked in
      let low : rank < length order = (let w = found.0 in omega (arith, w, long)) in
      (low, read_ranked kind links opened (length links) order ranked rank low ∙ ap (slot_of opened) found.1)

  pub ranked_withdrawn : IsRankedIn kind (links_in slots opened) opened (length (links_in slots opened)) order → (rank : ℕ) → rank < length order → get_or order rank 0 ≡ get_or opened at 0
      → IsRankedIn kind (links_in slots opened) opened at (remove order rank)
  ranked_withdrawn ranked rank low stands =
      let links = links_in slots opened in
      let here = same_there slots opened r (get_or ranked.positions rank 0) at (inside kind slots opened r (length links) order ranked rank low) within
      (sym (read_ranked kind links opened (length links) order ranked rank low) ∙ stands) in
      let long = long_ranked kind links opened (length links) order ranked in
      record {
        positions = remove ranked.positions rank;
        is = ap (λ (xs : List ℕ). remove xs rank) ranked.is ∙ sym (map_remove (λ (p : ℕ). get_or opened p 0) ranked.positions rank);
        in_order = withdrawn kind links ranked.positions at rank ranked.in_order (omega (arith, low, long)) here;
      }

  pub ranked_entered : IsRankedIn kind (links_in slots opened) opened at order → is_of kind (link_at (links_in slots opened) at) ≡ true → (rank : ℕ)
      → IsSplit (slot_key kind slots) order (slot_key kind slots (get_or opened at 0)) rank
      → IsRankedIn kind (links_in slots opened) opened (length (links_in slots opened)) (insert order rank (get_or opened at 0))
  ranked_entered ranked here rank split =
      let links = links_in slots opened in
      record {
        positions = insert ranked.positions rank at;
        is = ap (λ (xs : List ℕ). insert xs rank (get_or opened at 0)) ranked.is ∙ sym (map_insert (λ (p : ℕ). get_or opened p 0) ranked.positions rank at);
        in_order = entered kind links ranked.positions at rank inside_links ranked.in_order here (split_own kind slots opened r at order ranked at rank within split);
      }

  pub few_ranked : IsRankedIn kind (links_in slots opened) opened at order → length order < length opened
  few_ranked ranked =
      let links = links_in slots opened in
      let few = few_others kind links at ranked.positions inside_links ranked.in_order in
      let long = long_ranked kind links opened at order ranked in
      let same = length-map opened (link_in slots) in
      omega (arith, few, long, same)

pub ranked_not_there : (kind : OrderKind) (links : List Link) (opened order : List ℕ) (at : ℕ) → IsRankedIn kind links opened (length links) order → is_of kind (link_at links at) ≡ false → IsRankedIn kind links opened at order
ranked_not_there kind links opened order at ranked other =
    record { positions = ranked.positions; is = ranked.is; in_order = not_there kind links ranked.positions at ranked.in_order other }

pub ranked_not_entered : (kind : OrderKind) (links : List Link) (opened order : List ℕ) (at : ℕ) → IsRankedIn kind links opened at order → is_of kind (link_at links at) ≡ false → IsRankedIn kind links opened (length links) order
ranked_not_entered kind links opened order at ranked other =
    record { positions = ranked.positions; is = ranked.is; in_order = not_entered kind links ranked.positions at ranked.in_order other }

pub no_ranked : (kind : OrderKind) (links : List Link) (opened order : List ℕ) → links ≡ [] → order ≡ [] → IsRankedIn kind links opened (length links) order
no_ranked kind links opened order none empty = record { positions = []; is = empty; in_order = no_order kind links [] none refl }

-- a link is changed
other_kept : (f : Link → Link) (links : List Link) (at x : ℕ) → x ≢ at → link_at (change_at at f links) x ≡ link_at links x
unfolding change_at
other_kept f [] at x other = refl
other_kept f (link ∷ links) zero zero other = absurd (other refl)
other_kept f (link ∷ links) zero (suc x) other = refl
other_kept f (link ∷ links) (suc at) zero other = refl
other_kept f (link ∷ links) (suc at) (suc x) other = other_kept f links at x (omega (arith, other))

change_is_set : (f : Link → Link) (links : List Link) (at : ℕ) → at < length links → change_at at f links ≡ set links at (f (link_at links at))
change_is_set f links at within = sym (set_is_change f links at (link_at links at) (f (link_at links at)) within (get_or_default links at no_link (link_at links at) within) refl)

pub ranked_changed : (kind : OrderKind) (f : Link → Link) (at : ℕ) (old new : Slots) (order : List ℕ) → IsChanged at f old new → AreRankedBut kind old at order → AreRankedBut kind new at order
ranked_changed kind f at old new order changes ranked =
    record {
      positions = ranked.positions;
      is = ranked.is ∙ ap (λ (opened : List ℕ). map (λ (p : ℕ). get_or opened p 0) ranked.positions) (sym changes.opened);
      in_order = changed_but kind (links_of old) (links_of new) at ranked.positions (ap length changes.links ∙ length-change_at f (links_of old) at)
          (λ x other. ap (λ (links : List Link). link_at links x) changes.links ∙ other_kept f (links_of old) at x other) ranked.in_order;
    }

pub ranked_kept : (kind : OrderKind) (f : Link → Link) → ((x : Link) → order_key kind (f x) ≡ order_key kind x) → ((x : Link) → is_of kind (f x) ≡ is_of kind x) → (at : ℕ) (old new : Slots) (order : List ℕ) → at < length (links_of old)
    → IsChanged at f old new → AreRankedOf kind old order → AreRankedOf kind new order
ranked_kept kind f same_key same_kind at old new order within changes ranked =
    let written = changes.links ∙ change_is_set f (links_of old) at within in
    record {
      positions = ranked.positions;
      is = ranked.is ∙ ap (λ (opened : List ℕ). map (λ (p : ℕ). get_or opened p 0) ranked.positions) (sym changes.opened);
      in_order = subst (λ (links : List Link). IsOrderOf kind links ranked.positions) (sym written)
          (kept_by kind f same_key same_kind (links_of old) at (link_at (links_of old) at) (f (link_at (links_of old) at)) ranked.positions within
          (get_or_default (links_of old) at no_link (link_at (links_of old) at) within) refl ranked.in_order);
    }

-- a link more, which the order leaves out; and a link less, which it left out
pub ranked_grown : (kind : OrderKind) (link : Link) (old new : Slots) (order : List ℕ) → length (links_of old) ≡ length (opened_of old) → IsMore link old new → AreRankedOf kind old order → AreRankedBut kind new (length (links_of old)) order
ranked_grown kind link old new order long more ranked =
    record {
      positions = ranked.positions;
      is = ranked.is
          ∙ same_map (λ (p : ℕ). get_or (opened_of old) p 0) (λ (p : ℕ). get_or (opened_of old ++ more.slot ∷ []) p 0) ranked.positions
          (λ k within. sym (get_or_append_left (opened_of old) (more.slot ∷ []) 0 (get_or ranked.positions k 0) (let w = (ranked.in_order.each k within).within in omega (arith, w, long))))
          ∙ ap (λ (opened : List ℕ). map (λ (p : ℕ). get_or opened p 0) ranked.positions) (sym more.opened);
      in_order = subst (λ (links : List Link). IsOrderBut kind links (length (links_of old)) ranked.positions) (sym more.links) (grown kind (links_of old) link ranked.positions ranked.in_order);
    }

pub ranked_closed : (kind : OrderKind) (at : ℕ) (old new : Slots) (order : List ℕ) → at < length (links_of old) → length (links_of old) ≡ length (opened_of old) → IsLess at old new → AreRankedBut kind old at order → AreRankedOf kind new order
ranked_closed kind at old new order within long less ranked =
    record {
      positions = map (moved_up at) ranked.positions;
      is = ranked.is
          ∙ through (λ (p : ℕ). get_or (opened_of old) p 0) (λ (p : ℕ). get_or (remove (opened_of old) at) p 0) (moved_up at) ranked.positions
          (λ k low. moves (get_or ranked.positions k 0) (ranked.in_order.each k low).other)
          ∙ ap (λ (opened : List ℕ). map (λ (p : ℕ). get_or opened p 0) (map (moved_up at) ranked.positions)) (sym less.opened);
      in_order = subst (λ (links : List Link). IsOrderOf kind links (map (moved_up at) ranked.positions)) (sym less.links) (closed kind (links_of old) at ranked.positions within ranked.in_order);
    }
  where
    moves : (x : ℕ) → x ≢ at → get_or (opened_of old) x 0 ≡ get_or (remove (opened_of old) at) (moved_up at x) 0
    moves x other =
        let inside_opened : at < length (opened_of old) = omega (arith, within, long) in
        elim (cases_lt x at) [
          | inl low ↦ sym (ap (λ n. get_or (remove (opened_of old) at) n 0) (up_below at x low) ∙ get_or-remove_below (opened_of old) at 0 x low inside_opened)
          | inr high ↦ (
              let past : at < x = omega (arith, high, other) in
              let back : x - 1 + 1 ≡ x = omega (arith, past) in
              sym (ap (λ n. get_or (remove (opened_of old) at) n 0) (up_above at x past) ∙ get_or-remove_above (opened_of old) at 0 (x - 1) (omega (arith, past)) inside_opened ∙ ap (slot_of (opened_of old)) back)
              )
        ]
