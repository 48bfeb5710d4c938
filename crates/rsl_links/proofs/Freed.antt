-- Slots: a link less, whose slot is free then.
use Rattle.std.proofs.Common.{◌≡◌, ◌≢◌, ℕ, suc, ◌+◌, ◌-◌, ◌<◌, ◌≤◌, List, [], ◌∷◌, ◌++◌, take, drop, set, get_or, length, length-append, map, refl, ap, sym, ◌∙◌, subst, arith, append_assoc, ◌⊎◌, inl, inr}
use Rattle.std.specs.List.{remove}
use Rattle.std.proofs.lemmas.Bool.{cases_lt}
use Rattle.std.proofs.lemmas.List.{get_or_append_left, get_or-set_other, get_or_push, drop-map, length-set, map-append, take-append-drop, take-map, take_at}
use Rattle.std.proofs.lemmas.List.Edits.{length-remove, remove-append_left}
use Rattle.rsl_links.specs.declared.slots.Slot.{Slot}
use Rattle.rsl_links.specs.declared.slots.Slots.{Slots}
use Rattle.std.specs.Prelude.{vec_capacity}
use Rattle.std.specs.VecDeque.{deque_capacity}
use Rattle.rsl_links.specs.Slots.{AreSequenced, IsKept, IsLess, IsRising, link_in, links_in, no_slot, opened_in, opened_of}
use Rattle.rsl_links.proofs.Orders.{read_less}
use Rattle.rsl_links.proofs.Slotted.{long_opened, read_opened, same_links, same_rising, same_there}

-- a link less
map_remove : {A : Type 0} (f : ℕ → A) (xs : List ℕ) (at : ℕ) → map f (remove xs at) ≡ remove (map f xs) at
map_remove f xs at =
    map-append f (take at xs) (drop (suc at) xs)
    ∙ ap (λ ys. ys ++ map f (drop (suc at) xs)) (sym (take-map f at xs))
    ∙ ap (λ ys. take at (map f xs) ++ ys) (sym (drop-map f (suc at) xs))

rising_less : (slots : List Slot) (opened : List ℕ) (at : ℕ) → IsRising slots opened → at < length opened → IsRising slots (remove opened at)
rising_less slots opened at r within =
    record {
      within = λ k inside. elim (read_less opened at k within inside) [
        | inl low ↦ (let read = low.1 in let w = r.within k (omega (arith, low.0, within)) in omega (arith, read, w))
        | inr high ↦ (let read = high.1.1 in let w = r.within (k + 1) high.1.0 in omega (arith, read, w))
      ];
      rises = λ j k past inside. let long = length-remove opened at within in elim (read_less opened at j within (omega (arith, past, inside))) [
        | inl one ↦ elim (read_less opened at k within inside) [
          | inl two ↦ by_reads j k (get_or (remove opened at) j 0) (get_or (remove opened at) k 0) one.1 two.1 (r.rises j k past (omega (arith, two.0, within)))
          | inr two ↦ by_reads j (k + 1) (get_or (remove opened at) j 0) (get_or (remove opened at) k 0) one.1 two.1.1 (r.rises j (k + 1) (omega (arith, past)) two.1.0)
        ]
        | inr one ↦ elim (read_less opened at k within inside) [
          | inl two ↦ absurd (omega (arith, one.0, two.0, past))
          | inr two ↦ by_reads (j + 1) (k + 1) (get_or (remove opened at) j 0) (get_or (remove opened at) k 0) one.1.1 two.1.1 (r.rises (j + 1) (k + 1) (omega (arith, past)) two.1.0)
        ]
      ];
      below = λ k inside. elim (read_less opened at k within inside) [
        | inl low ↦ (let read = ap (opened_in slots) low.1 in let most = r.below k (omega (arith, low.0, within)) in omega (arith, read, most))
        | inr high ↦ (let read = ap (opened_in slots) high.1.1 in let most = r.below (k + 1) high.1.0 in omega (arith, read, most))
      ];
    }
  where
    by_reads : (j k a b : ℕ) → a ≡ get_or opened j 0 → b ≡ get_or opened k 0 → opened_in slots (get_or opened j 0) < opened_in slots (get_or opened k 0) → opened_in slots a < opened_in slots b
    by_reads j k a b one two h = rw (one, two) h

-- the slot of a link goes to the end of the sequence, past those that are free
abbrev Moved : ℕ → ℕ → ℕ → ℕ → Type 0
Moved long at k i = ((k < at) × (i ≡ k)) ⊎ (((at ≤ k) × ((k + 1 < long) × (i ≡ k + 1))) ⊎ ((k + 1 ≡ long) × (i ≡ at)))

record Came (sequence : List ℕ) (at x k : ℕ) : Type 0 where
  i : ℕ
  inside : i < length sequence
  is : x ≡ get_or sequence i 0
  moved : Moved (length sequence) at k i

moved_apart : (long at j k one two : ℕ) → at < long → j < k → Moved long at j one → Moved long at k two → one ≢ two
moved_apart long at j k one two within past a b =
    elim a [
      | inl x ↦ elim b [
        | inl y ↦ (let e = x.1 in let f = y.1 in omega (arith, past, e, f))
        | inr rest ↦ elim rest [
          | inl y ↦ (let e = x.1 in let f = y.1.1 in omega (arith, past, e, f))
          | inr y ↦ (let low = x.0 in let e = x.1 in let f = y.1 in omega (arith, low, e, f))
        ]
      ]
      | inr other ↦ elim other [
        | inl x ↦ elim b [
          | inl y ↦ (let high = x.0 in let low = y.0 in omega (arith, past, high, low))
          | inr rest ↦ elim rest [
            | inl y ↦ (let e = x.1.1 in let f = y.1.1 in omega (arith, past, e, f))
            | inr y ↦ (let high = x.0 in let e = x.1.1 in let f = y.1 in omega (arith, high, e, f))
          ]
        ]
        | inr x ↦ elim b [
          | inl y ↦ (let last = x.0 in let low = y.0 in omega (arith, past, last, low, within))
          | inr rest ↦ elim rest [
            | inl y ↦ (let last = x.0 in let low = y.1.0 in omega (arith, past, last, low))
            | inr y ↦ (let last = x.0 in let end = y.0 in omega (arith, past, last, end))
          ]
        ]
      ]
    ]

module _ (slots : List Slot) (sequence : List ℕ) (count : ℕ) (p : AreSequenced slots sequence count) (at slot : ℕ) (within : at < count) (stands : slot ≡ get_or (take count sequence) at 0) where
  inside_all : at < length sequence
  inside_all = let few = p.few in omega (arith, within, few)

  inside_opened : at < length (take count sequence)
  inside_opened = let long = long_opened slots sequence count p in omega (arith, within, long)

  pub less_opened : take (count - 1) (remove sequence at ++ slot ∷ []) ≡ remove (take count sequence) at
  less_opened =
      let long = long_opened slots sequence count p in
      let short = length-remove (take count sequence) at inside_opened in
      let whole : remove sequence at ≡ remove (take count sequence) at ++ drop count sequence =
      ap (λ (xs : List ℕ). remove xs at) (sym (take-append-drop count sequence)) ∙ remove-append_left (take count sequence) (drop count sequence) at inside_opened in
      ap (λ (xs : List ℕ). take (count - 1) (xs ++ slot ∷ [])) whole
      ∙ ap (take (count - 1)) (append_assoc (remove (take count sequence) at) (drop count sequence) (slot ∷ []))
      ∙ take_at (remove (take count sequence) at) (drop count sequence ++ slot ∷ []) (count - 1) (omega (arith, long, short))

  other_less : (k : ℕ) → k < length (remove (take count sequence) at) → get_or (remove (take count sequence) at) k 0 ≢ slot
  other_less k inside same =
      elim (read_less (take count sequence) at k inside_opened inside) [
        | inl low ↦ (
            let here = same_there slots (take count sequence) p.rising k at (let w = inside_opened in omega (arith, w, low.0)) inside_opened (sym low.1 ∙ same ∙ stands) in
            omega (arith, here, low.0)
            )
        | inr high ↦ (
            let here = same_there slots (take count sequence) p.rising (k + 1) at high.1.0 inside_opened (sym high.1.1 ∙ same ∙ stands) in
            omega (arith, here, high.0)
            )
      ]

  left_there : (y : Slot) (k : ℕ) → k < length (remove (take count sequence) at) → get_or (set slots slot y) (get_or (remove (take count sequence) at) k 0) no_slot ≡ get_or slots (get_or (remove (take count sequence) at) k 0) no_slot
  left_there y k inside = get_or-set_other slots slot (get_or (remove (take count sequence) at) k 0) y no_slot (other_less k inside)

  pub less_links : (y : Slot) → links_in (set slots slot y) (take (count - 1) (remove sequence at ++ slot ∷ [])) ≡ remove (links_in slots (take count sequence)) at
  less_links y =
      ap (links_in (set slots slot y)) less_opened
      ∙ same_links slots (set slots slot y) (remove (take count sequence) at) (λ k inside. ap (λ (one : Slot). one.link) (left_there y k inside))
      ∙ map_remove (link_in slots) (take count sequence) at

  came : (k : ℕ) → k < length (remove sequence at ++ slot ∷ []) → Came sequence at (get_or (remove sequence at ++ slot ∷ []) k 0) k
  came k inside =
      let long = length-remove sequence at inside_all in
      let more = length-append (remove sequence at) (slot ∷ []) in
      elim (cases_lt k (length (remove sequence at))) [
        | inl low ↦ (
            let left = get_or_append_left (remove sequence at) (slot ∷ []) 0 k low in
            elim (read_less sequence at k inside_all low) [
              | inl one ↦ record { i = k; inside = (let w = inside_all in omega (arith, w, one.0)); is = left ∙ one.1; moved = inl (one.0, refl) }
              | inr one ↦ record { i = k + 1; inside = one.1.0; is = left ∙ one.1.1; moved = inr (inl (one.0, (one.1.0, refl))) }
            ]
            )
        | inr high ↦ (
            let last : length (remove sequence at) ≡ k = omega (arith, more, inside, high) in
            record {
              i = at;
              inside = inside_all;
              is = get_or_push (remove sequence at) slot 0 k last ∙ stands ∙ read_opened sequence count at within;
              moved = inr (inr (omega (arith, last, long), refl));
            }
            )
      ]

  pub less_sequenced : (y : Slot) → AreSequenced (set slots slot y) (remove sequence at ++ slot ∷ []) (count - 1)
  less_sequenced y =
      let long = length-remove sequence at inside_all in
      let more = length-append (remove sequence at) (slot ∷ []) in
      let same = length-set slots slot y in
      record {
        few = (let few = p.few in omega (arith, long, more, few));
        all = (let all = p.all in omega (arith, long, more, all, same));
        within = λ k inside. let from = came k inside in let read = from.is in let w = p.within from.i from.inside in omega (arith, read, w, same);
        apart = λ j k past inside equal.
            let one = came j (omega (arith, past, inside)) in
            let two = came k inside in
            let other = moved_apart (length sequence) at j k one.i two.i inside_all past one.moved two.moved in
            apart_there one.i two.i one.inside two.inside other (sym one.is ∙ equal ∙ two.is);
        rising = subst (IsRising (set slots slot y)) (sym less_opened)
            (same_rising slots (set slots slot y) (remove (take count sequence) at) (rising_less slots (take count sequence) at p.rising inside_opened) (omega (arith, same))
            (λ k inside. ap (λ (one : Slot). one.opened) (left_there y k inside)));
      }
    where
      apart_there : (a b : ℕ) → a < length sequence → b < length sequence → a ≢ b → get_or sequence a 0 ≢ get_or sequence b 0
      apart_there a b one two other same =
          elim (cases_lt a b) [
            | inl low ↦ p.apart a b low two same
            | inr high ↦ p.apart b a (omega (arith, high, other)) one (sym same)
          ]

-- the same of the fields of slots
pub less : (old new : Slots) → IsKept old → (at slot : ℕ) → at < old.count → slot ≡ get_or (opened_of old) at 0 → (y : Slot) → new.slots.items ≡ set old.slots.items slot y → new.sequence.items ≡ remove old.sequence.items at ++ slot ∷ []
    → new.count ≡ old.count - 1 → vec_capacity new.slots ≡ vec_capacity old.slots → deque_capacity new.sequence ≡ deque_capacity old.sequence → IsLess at old new
less old new k at slot within stands y slots sequence count capacity room =
    let long = length-remove old.sequence.items at (let few = k.sequenced.few in omega (arith, within, few)) in
    let more = length-append (remove old.sequence.items at) (slot ∷ []) in
    let all = ap length sequence in
    record {
      kept = record {
        sequenced = rw (slots, sequence, count) (less_sequenced old.slots.items old.sequence.items old.count k.sequenced at slot within stands y);
        fit = (let fit = k.fit in omega (arith, long, more, all, fit, capacity));
        room = (let enough = k.room in omega (arith, enough, capacity, room));
      };
      opened = rw (sequence, count) (less_opened old.slots.items old.sequence.items old.count k.sequenced at slot within stands);
      count = omega (arith, count, within);
      links = rw (slots, sequence, count) (less_links old.slots.items old.sequence.items old.count k.sequenced at slot within stands y);
      room = capacity;
    }
