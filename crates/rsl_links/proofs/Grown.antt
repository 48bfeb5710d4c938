-- Slots: one more that is free, and a link more in one that was free.
use Rattle.std.proofs.Common.{◌≡◌, ◌≢◌, ℕ, ◌+◌, ◌<◌, List, [], ◌∷◌, ◌++◌, take, set, get_or, length, length-append, refl, ap, sym, ◌∙◌, subst, arith, ◌⊎◌, inl, inr}
use Rattle.std.proofs.lemmas.Bool.{cases_lt}
use Rattle.std.proofs.lemmas.List.{get_or_append_left, get_or_default, get_or-set_other, get_or-set_same, get_or_push, length-set, map-append, take-append-le, take_more}
use Rattle.rsl_links.specs.declared.link.Link.{Link}
use Rattle.rsl_links.specs.declared.slots.Slot.{Slot}
use Rattle.rsl_links.specs.declared.slots.Slots.{Slots}
use Rattle.std.specs.Vec.{with_item}
use Rattle.std.specs.Prelude.{vec_capacity}
use Rattle.std.specs.VecDeque.{deque_capacity}
use Rattle.rsl_links.specs.Slots.{AreSequenced, AreSame, IsKept, IsMore, IsRising, link_in, links_in, no_slot, opened_in, opened_of}
use Rattle.rsl_links.proofs.Slotted.{long_opened, read_opened, same_links, same_rising}

-- a slot more, which is free
module _ (slots : List Slot) (sequence : List ℕ) (count : ℕ) (p : AreSequenced slots sequence count) (slot : ℕ) (last : slot ≡ length slots) (y : Slot) where
  pub grown_opened : take count (sequence ++ slot ∷ []) ≡ take count sequence
  grown_opened = take-append-le count sequence (slot ∷ []) p.few

  slot_kept : (k : ℕ) → k < length (take count sequence) → get_or (slots ++ y ∷ []) (get_or (take count sequence) k 0) no_slot ≡ get_or slots (get_or (take count sequence) k 0) no_slot
  slot_kept k inside = get_or_append_left slots (y ∷ []) no_slot (get_or (take count sequence) k 0) (p.rising.within k inside)

  pub grown_links : links_in (slots ++ y ∷ []) (take count (sequence ++ slot ∷ [])) ≡ links_in slots (take count sequence)
  grown_links =
      ap (links_in (slots ++ y ∷ [])) grown_opened
      ∙ same_links slots (slots ++ y ∷ []) (take count sequence) (λ k inside. ap (λ (one : Slot). one.link) (slot_kept k inside))

  upto : (k : ℕ) → k < length (sequence ++ slot ∷ []) → ((k < length sequence) × (get_or (sequence ++ slot ∷ []) k 0 ≡ get_or sequence k 0)) ⊎ ((length sequence ≡ k) × (get_or (sequence ++ slot ∷ []) k 0 ≡ slot))
  upto k inside =
      let more = length-append sequence (slot ∷ []) in
      elim (cases_lt k (length sequence)) [
        | inl low ↦ inl (low, get_or_append_left sequence (slot ∷ []) 0 k low)
        | inr high ↦ inr (omega (arith, more, inside, high), get_or_push sequence slot 0 k (omega (arith, more, inside, high)))
      ]

  pub grown_sequenced : AreSequenced (slots ++ y ∷ []) (sequence ++ slot ∷ []) count
  grown_sequenced =
      let more = length-append sequence (slot ∷ []) in
      let long = length-append slots (y ∷ []) in
      record {
        few = (let few = p.few in omega (arith, few, more));
        all = (let all = p.all in omega (arith, all, more, long));
        within = λ k inside. elim (upto k inside) [
          | inl low ↦ (let read = low.1 in let w = p.within k low.0 in omega (arith, read, w, long))
          | inr end ↦ (let read = end.1 in omega (arith, read, last, long))
        ];
        apart = λ j k past inside. elim (upto k inside) [
          | inl two ↦ elim (upto j (omega (arith, past, inside))) [
            | inl one ↦ λ same. p.apart j k past two.0 (sym one.1 ∙ same ∙ two.1)
            | inr one ↦ absurd (let end = one.0 in let low = two.0 in omega (arith, past, end, low))
          ]
          | inr two ↦ elim (upto j (omega (arith, past, inside))) [
            | inl one ↦ (let a = one.1 in let b = two.1 in let w = p.within j one.0 in omega (arith, a, b, w, last))
            | inr one ↦ absurd (let end = one.0 in let e = two.0 in omega (arith, past, end, e))
          ]
        ];
        rising = subst (IsRising (slots ++ y ∷ [])) (sym grown_opened)
            (same_rising slots (slots ++ y ∷ []) (take count sequence) p.rising (omega (arith, long)) (λ k inside. ap (λ (one : Slot). one.opened) (slot_kept k inside)));
      }

-- a slot more among those of links
rising_more : (slots : List Slot) (opened : List ℕ) (slot : ℕ) → IsRising slots opened → slot < length slots → ((k : ℕ) → k < length opened → opened_in slots (get_or opened k 0) < opened_in slots slot)
    → opened_in slots slot < 18446744073709551615 → IsRising slots (opened ++ slot ∷ [])
rising_more slots opened slot r here later below =
    record {
      within = λ k inside. elim (upto k inside) [
        | inl low ↦ (let read = left k low in let w = r.within k low in omega (arith, read, w))
        | inr last ↦ (let read = right k last in omega (arith, read, here))
      ];
      rises = λ j k past inside. elim (upto k inside) [
        | inl low ↦ (let a = serial j (omega (arith, past, low)) in let b = serial k low in let up = r.rises j k past low in omega (arith, a, b, up))
        | inr last ↦ (let a = serial j (omega (arith, past, last)) in let b = own k last in let up = later j (omega (arith, past, last)) in omega (arith, a, b, up))
      ];
      below = λ k inside. elim (upto k inside) [
        | inl low ↦ (let a = serial k low in let most = r.below k low in omega (arith, a, most))
        | inr last ↦ (let a = own k last in omega (arith, a, below))
      ];
    }
  where
    upto : (k : ℕ) → k < length (opened ++ slot ∷ []) → (k < length opened) ⊎ (k ≡ length opened)
    upto k inside =
        let long = length-append opened (slot ∷ []) in
        elim (cases_lt k (length opened)) [
          | inl low ↦ inl low
          | inr high ↦ inr (omega (arith, long, inside, high))
        ]

    left : (k : ℕ) → k < length opened → get_or (opened ++ slot ∷ []) k 0 ≡ get_or opened k 0
    left k low = get_or_append_left opened (slot ∷ []) 0 k low

    right : (k : ℕ) → k ≡ length opened → get_or (opened ++ slot ∷ []) k 0 ≡ slot
    right k last = get_or_push opened slot 0 k (sym last)

    serial : (k : ℕ) → k < length opened → opened_in slots (get_or (opened ++ slot ∷ []) k 0) ≡ opened_in slots (get_or opened k 0)
    serial k low = ap (opened_in slots) (left k low)

    own : (k : ℕ) → k ≡ length opened → opened_in slots (get_or (opened ++ slot ∷ []) k 0) ≡ opened_in slots slot
    own k last = ap (opened_in slots) (right k last)

module _ (slots : List Slot) (sequence : List ℕ) (count : ℕ) (p : AreSequenced slots sequence count) (free : count < length sequence) (slot : ℕ) (stands : slot ≡ get_or sequence count slot) (y : Slot) where
  free_stands : slot ≡ get_or sequence count 0
  free_stands = stands ∙ get_or_default sequence count slot 0 free

  free_within : slot < length slots
  free_within = subst (λ n. n < length slots) (sym free_stands) (p.within count free)

  not_open : (k : ℕ) → k < length (take count sequence) → get_or (take count sequence) k 0 ≢ slot
  not_open k within same =
      let long = long_opened slots sequence count p in
      let low : k < count = omega (arith, within, long) in
      p.apart k count low free (sym (read_opened sequence count k low) ∙ same ∙ free_stands)

  kept_there : (k : ℕ) → k < length (take count sequence) → get_or (set slots slot y) (get_or (take count sequence) k 0) no_slot ≡ get_or slots (get_or (take count sequence) k 0) no_slot
  kept_there k within = get_or-set_other slots slot (get_or (take count sequence) k 0) y no_slot (not_open k within)

  new_there : get_or (set slots slot y) slot no_slot ≡ y
  new_there = get_or-set_same slots slot y no_slot free_within

  pub more_opened : take (count + 1) sequence ≡ take count sequence ++ slot ∷ []
  more_opened = take_more sequence count slot free ∙ ap (λ n. take count sequence ++ n ∷ []) (sym stands)

  pub more_links : links_in (set slots slot y) (take (count + 1) sequence) ≡ links_in slots (take count sequence) ++ y.link ∷ []
  more_links =
      ap (links_in (set slots slot y)) more_opened
      ∙ map-append (link_in (set slots slot y)) (take count sequence) (slot ∷ [])
      ∙ ap (λ (ls : List Link). ls ++ link_in (set slots slot y) slot ∷ []) (same_links slots (set slots slot y) (take count sequence) (λ k within. ap (λ (one : Slot). one.link) (kept_there k within)))
      ∙ ap (λ (one : Slot). links_in slots (take count sequence) ++ one.link ∷ []) new_there

  pub more_sequenced : ((k : ℕ) → k < count → opened_in slots (get_or (take count sequence) k 0) < y.opened) → y.opened < 18446744073709551615 → AreSequenced (set slots slot y) sequence (count + 1)
  more_sequenced later below =
      let long = length-set slots slot y in
      let own : opened_in (set slots slot y) slot ≡ y.opened = ap (λ (one : Slot). one.opened) new_there in
      record {
        few = omega (arith, free);
        all = (let all = p.all in omega (arith, all, long));
        within = λ k inside. let w = p.within k inside in omega (arith, w, long);
        apart = p.apart;
        rising = subst (IsRising (set slots slot y)) (sym more_opened)
            (rising_more (set slots slot y) (take count sequence) slot
            (same_rising slots (set slots slot y) (take count sequence) p.rising (omega (arith, long)) (λ k within. ap (λ (one : Slot). one.opened) (kept_there k within)))
            (let w = free_within in omega (arith, w, long))
            (λ k within.
            let low : k < count = (let upto = long_opened slots sequence count p in omega (arith, within, upto)) in
            let same = ap (λ (one : Slot). one.opened) (kept_there k within) in let less = later k low in omega (arith, own, same, less))
            (omega (arith, own, below)));
      }

-- the same of the fields of slots
pub grown : (old new : Slots) → IsKept old → (slot : ℕ) → slot ≡ length old.slots.items → (y : Slot) → new.slots.items ≡ old.slots.items ++ y ∷ [] → new.sequence.items ≡ old.sequence.items ++ slot ∷ []
    → new.count ≡ old.count → vec_capacity new.slots ≡ vec_capacity old.slots → deque_capacity new.sequence ≡ deque_capacity old.sequence → length old.sequence.items < vec_capacity old.slots → AreSame old new
grown old new k slot last y slots sequence count capacity room free =
    let more = length-append old.sequence.items (slot ∷ []) in
    let all = ap length sequence in
    record {
      kept = record {
        sequenced = rw (slots, sequence, count) (grown_sequenced old.slots.items old.sequence.items old.count k.sequenced slot last y);
        fit = omega (arith, more, all, free, capacity);
        room = (let enough = k.room in omega (arith, enough, capacity, room));
      };
      opened = rw (sequence, count) (grown_opened old.slots.items old.sequence.items old.count k.sequenced slot last y);
      count = count;
      links = rw (slots, sequence, count) (grown_links old.slots.items old.sequence.items old.count k.sequenced slot last y);
      room = capacity;
    }

-- links as they were, where a slot is free
pub record HasRoom (old new : Slots) : Type 0 where
  pub same : AreSame old new
  pub free : new.count < length new.sequence.items
  pub numbers : (k : ℕ) → k < new.count → opened_in new.slots.items (get_or (opened_of new) k 0) ≡ opened_in old.slots.items (get_or (opened_of old) k 0)

pub roomy_grown : (old new : Slots) → IsKept old → AreSame old new → length new.sequence.items ≡ length old.sequence.items + 1
    → ((k : ℕ) → k < new.count → opened_in new.slots.items (get_or (opened_of new) k 0) ≡ opened_in old.slots.items (get_or (opened_of old) k 0)) → HasRoom old new
roomy_grown old new k same more numbers =
    record { same = same; free = (let few = k.sequenced.few in let count = same.count in omega (arith, few, more, count)); numbers = numbers }

pub roomy_same : (old : Slots) → IsKept old → (long : ℕ) → long ≡ length old.sequence.items → (old.count ≡ long → ⊥) → HasRoom old old
roomy_same old k long is other =
    record {
      same = record { kept = k; opened = refl; count = refl; links = refl; room = refl };
      free = (let few = k.sequenced.few in omega (arith, few, is, other));
      numbers = λ k low. refl;
    }

pub more : (old mid new : Slots) → AreSame old mid → HasRoom mid new → (slot : ℕ) → slot ≡ get_or new.sequence.items new.count slot → (y : Slot) → ((k : ℕ) → k < mid.count → opened_in mid.slots.items (get_or (opened_of mid) k 0) < y.opened)
    → y.opened < 18446744073709551615 → IsMore y.link old (record new { slots = with_item new.slots slot y; count = new.count + 1 })
more old mid new first second slot stands y later below =
    let kept = second.same.kept in
    let count = second.same.count in
    record {
      kept = record {
        sequenced = more_sequenced new.slots.items new.sequence.items new.count kept.sequenced second.free slot stands y
            (λ k low. let one = second.numbers k low in let two = later k (omega (arith, low, count)) in omega (arith, one, two)) below;
        fit = kept.fit;
        room = kept.room;
      };
      slot = slot;
      opened = more_opened new.slots.items new.sequence.items new.count kept.sequenced second.free slot stands y ∙ ap (λ (xs : List ℕ). xs ++ slot ∷ []) (second.same.opened ∙ first.opened);
      count = ap (λ n. n + 1) (second.same.count ∙ first.count);
      links = more_links new.slots.items new.sequence.items new.count kept.sequenced second.free slot stands y ∙ ap (λ (ls : List Link). ls ++ y.link ∷ []) (second.same.links ∙ first.links);
      room = second.same.room ∙ first.room;
    }
