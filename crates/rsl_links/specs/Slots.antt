-- Where a book keeps its links: each in a slot until it ends. The sequence has all slots, first
-- those of the links, in the order in which they opened, and then the free ones.
use Rattle.std.specs.Prelude.{◌≡◌, ◌≢◌, ℕ, ◌+◌, ◌<◌, ◌≤◌, List, [], ◌∷◌, ◌++◌, get_or, length, map, take, vec_capacity}
use Rattle.std.specs.List.{remove}
use Rattle.std.specs.VecDeque.{deque_capacity}
use Rattle.rsl_links.specs.declared.link.Link.{Link}
use Rattle.rsl_links.specs.declared.slots.Slot.{Slot}
use Rattle.rsl_links.specs.declared.slots.Slots.{Slots}
use Rattle.rsl_links.specs.First.{change_at}
use Rattle.rsl_links.specs.Order.{no_link}

-- a free slot
abbrev pub no_slot : Slot
no_slot = record { link = no_link; opened = 0 }

-- the link in a slot, and the number of its opening
abbrev pub link_in : List Slot → ℕ → Link
link_in slots at = (get_or slots at no_slot).link

abbrev pub opened_in : List Slot → ℕ → ℕ
opened_in slots at = (get_or slots at no_slot).opened

-- the slots of the links, in the order in which they opened, and the links
abbrev pub opened_of : Slots → List ℕ
opened_of slots = take slots.count slots.sequence.items

abbrev pub links_in : List Slot → List ℕ → List Link
links_in slots opened = map (link_in slots) opened

abbrev pub links_of : Slots → List Link
links_of slots = links_in slots.slots.items (opened_of slots)

-- the numbers of the openings rise, and the greatest number of all is unused
pub record IsRising (slots : List Slot) (opened : List ℕ) : Type 0 where
  pub within : (k : ℕ) → k < length opened → get_or opened k 0 < length slots
  pub rises : (j k : ℕ) → j < k → k < length opened → opened_in slots (get_or opened j 0) < opened_in slots (get_or opened k 0)
  pub below : (k : ℕ) → k < length opened → opened_in slots (get_or opened k 0) < 18446744073709551615

-- each slot is in the sequence once
pub record AreSequenced (slots : List Slot) (sequence : List ℕ) (count : ℕ) : Type 0 where
  pub few : count ≤ length sequence
  pub all : length sequence ≡ length slots
  pub within : (k : ℕ) → k < length sequence → get_or sequence k 0 < length slots
  pub apart : (j k : ℕ) → j < k → k < length sequence → get_or sequence j 0 ≢ get_or sequence k 0
  pub rising : IsRising slots (take count sequence)

pub record IsKept (slots : Slots) : Type 0 where
  pub sequenced : AreSequenced slots.slots.items slots.sequence.items slots.count
  pub fit : length slots.sequence.items ≤ vec_capacity slots.slots
  pub room : vec_capacity slots.slots ≤ deque_capacity slots.sequence

-- the links and the room are as they were
pub record AreSame (old new : Slots) : Type 0 where
  pub kept : IsKept new
  pub opened : opened_of new ≡ opened_of old
  pub count : new.count ≡ old.count
  pub links : links_of new ≡ links_of old
  pub room : vec_capacity new.slots ≡ vec_capacity old.slots

-- one link is changed
pub record IsChanged (at : ℕ) (change : Link → Link) (old new : Slots) : Type 0 where
  pub kept : IsKept new
  pub opened : opened_of new ≡ opened_of old
  pub count : new.count ≡ old.count
  pub links : links_of new ≡ change_at at change (links_of old)
  pub room : vec_capacity new.slots ≡ vec_capacity old.slots

-- a link is added after the others
pub record IsMore (link : Link) (old new : Slots) : Type 0 where
  pub kept : IsKept new
  pub slot : ℕ
  pub opened : opened_of new ≡ opened_of old ++ slot ∷ []
  pub count : new.count ≡ old.count + 1
  pub links : links_of new ≡ links_of old ++ link ∷ []
  pub room : vec_capacity new.slots ≡ vec_capacity old.slots

-- a link is removed
pub record IsLess (at : ℕ) (old new : Slots) : Type 0 where
  pub kept : IsKept new
  pub opened : opened_of new ≡ remove (opened_of old) at
  pub count : new.count + 1 ≡ old.count
  pub links : links_of new ≡ remove (links_of old) at
  pub room : vec_capacity new.slots ≡ vec_capacity old.slots
