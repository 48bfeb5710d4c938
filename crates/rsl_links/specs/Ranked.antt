-- An order as a book keeps it: the slots of the links that it lists. Of two links with equal sort
-- keys, the one with the lower number of its opening comes first, as the one at the lower position
-- does.
use Rattle.std.specs.Prelude.{◌≡◌, ℕ, ◌<◌, ◌≤◌, List, get_or, length, map, true}
use Rattle.rsl_links.specs.declared.link.Link.{Link}
use Rattle.rsl_links.specs.declared.order.OrderKind.{OrderKind}
use Rattle.rsl_links.specs.declared.order.Order.{Order}
use Rattle.rsl_links.specs.declared.slots.Slot.{Slot}
use Rattle.rsl_links.specs.declared.slots.Slots.{Slots}
use Rattle.rsl_links.specs.Order.{Key, IsOrderBut, is_before, order_key}
use Rattle.rsl_links.specs.Slots.{link_in, links_of, opened_in, opened_of}

abbrev pub slot_key : OrderKind → List Slot → ℕ → Key
slot_key kind slots at = (order_key kind (link_in slots at), opened_in slots at)

-- slots in their order
pub record IsSearchable (kind : OrderKind) (slots : List Slot) (order : List ℕ) : Type 0 where
  pub within : (k : ℕ) → k < length order → get_or order k 0 < length slots
  pub rises : (j k : ℕ) → j < k → k < length order
      → is_before (slot_key kind slots (get_or order j 0)) (slot_key kind slots (get_or order k 0)) ≡ true

-- the clock at the last touch of the link at a rank
abbrev pub touched_in : List Slot → List ℕ → ℕ → ℕ
touched_in slots order rank = (link_in slots (get_or order rank 0)).touched

-- of the ranks from one to before another, the one of the link touched longest ago, and of several
-- the first
pub record IsOldestUpto (slots : List Slot) (order : List ℕ) (first end rank : ℕ) : Type 0 where
  pub from : first ≤ rank
  pub low : rank < end
  pub oldest : (k : ℕ) → first ≤ k → k < end → touched_in slots order rank ≤ touched_in slots order k
  pub before : (k : ℕ) → first ≤ k → k < rank → touched_in slots order rank < touched_in slots order k

-- the slots of the positions of an order
pub record IsRankedIn (kind : OrderKind) (links : List Link) (opened : List ℕ) (but : ℕ) (order : List ℕ) : Type 0 where
  pub positions : List ℕ
  pub is : order ≡ map (λ (at : ℕ). get_or opened at 0) positions
  pub in_order : IsOrderBut kind links but positions

-- the slots of the links of a kind, except one; and of all of them
abbrev pub AreRankedBut : OrderKind → Slots → ℕ → List ℕ → Type 0
AreRankedBut kind slots but order = IsRankedIn kind (links_of slots) (opened_of slots) but order

abbrev pub AreRankedOf : OrderKind → Slots → List ℕ → Type 0
AreRankedOf kind slots order = AreRankedBut kind slots (length (links_of slots)) order

-- an order lists the links of a kind, except one; and all of them
abbrev pub IsRankedBut : OrderKind → Slots → ℕ → Order → Type 0
IsRankedBut kind slots but order = AreRankedBut kind slots but order.slots.items

abbrev pub IsRankedOf : OrderKind → Slots → Order → Type 0
IsRankedOf kind slots order = IsRankedBut kind slots (length (links_of slots)) order
