-- What a contract sees of a list of links: the links in the order in which they opened, and the
-- room for them. Inside, its orders list the slots of the reserved and of the bound links by their
-- last touch, of the bound links by their sessions, of the links in bundles by their bundles, and of
-- those that have a station by it.
use Rattle.std.specs.Prelude.{◌≡◌, ℕ, ◌<◌, ◌≤◌, ◌==◌, ◌&&◌, nat_le, List, [], Bool, true, false, Option, None, Some, vec_capacity, length}
use Rattle.std.specs.VecDeque.{deque_capacity}
use Rattle.rsl_session.specs.Same.{same_octets}
use Rattle.rsl_links.specs.declared.link.Holder.{Holder as LinkHolder}
use Rattle.rsl_links.specs.declared.link.Holder.TheVariants.{Reserved as LinkReserved, Bound as LinkBound}
use Rattle.rsl_links.specs.declared.link.Link.{Link}
use Rattle.rsl_links.specs.declared.list.LinkList.TheInside.{Inside}
use Rattle.rsl_links.specs.declared.list.Orders.{Orders}
use Rattle.rsl_links.specs.declared.order.OrderKind.TheVariants.{Reserved, Bound, Sessions, Bundles, Stations}
use Rattle.rsl_links.specs.declared.slots.Slots.{Slots}
use Rattle.rsl_links.specs.Ranked.{IsRankedBut}
use Rattle.rsl_links.specs.Order.{holds_session, link_at}
use Rattle.rsl_links.specs.Slots.{IsKept, links_of}

pub record RoomyList : Type 0 where
  pub items : List Link
  pub room : ℕ

abbrev pub list_seen : Inside → RoomyList
list_seen list = record { items = links_of list.slots; room = vec_capacity list.slots.slots }

-- the orders list the links of their kinds, except one; and all of them
pub record AreOrdersBut (slots : Slots) (but : ℕ) (orders : Orders) : Type 0 where
  pub reserved : IsRankedBut Reserved slots but orders.reserved
  pub bound : IsRankedBut Bound slots but orders.bound
  pub sessions : IsRankedBut Sessions slots but orders.sessions
  pub bundles : IsRankedBut Bundles slots but orders.bundles
  pub stations : IsRankedBut Stations slots but orders.stations

abbrev pub AreOrders : Slots → Orders → Type 0
AreOrders slots orders = AreOrdersBut slots (length (links_of slots)) orders

pub record AreNoOrders (orders : Orders) : Type 0 where
  pub reserved : orders.reserved.slots.items ≡ []
  pub bound : orders.bound.slots.items ≡ []
  pub sessions : orders.sessions.slots.items ≡ []
  pub bundles : orders.bundles.slots.items ≡ []
  pub stations : orders.stations.slots.items ≡ []

-- each order has room for `most` links
pub record HaveOrdersRoom (most : ℕ) (orders : Orders) : Type 0 where
  pub reserved : most ≤ deque_capacity orders.reserved.slots
  pub bound : most ≤ deque_capacity orders.bound.slots
  pub sessions : most ≤ deque_capacity orders.sessions.slots
  pub bundles : most ≤ deque_capacity orders.bundles.slots
  pub stations : most ≤ deque_capacity orders.stations.slots

pub record IsRanked (list : Inside) : Type 0 where
  pub kept : IsKept list.slots
  pub orders : AreOrders list.slots list.orders
  pub room : HaveOrdersRoom (vec_capacity list.slots.slots) list.orders

-- whether a link at the access server of an index is bound, is bound to the session of this id, is
-- reserved by the number of a class, or is in the bundle of this id
unfoldable pub is_bound_at : ℕ → Link → Bool
is_bound_at nas link = holds_session link.holder && link.nas == nas

abbrev pub is_id : List ℕ → LinkHolder → Bool
is_id id (LinkReserved number) = false
is_id id (LinkBound own) = same_octets own id

unfoldable pub is_held : ℕ → List ℕ → Link → Bool
is_held nas id link = link.nas == nas && is_id id link.holder

abbrev pub is_wanted_holder : Option ℕ → LinkHolder → Bool
is_wanted_holder class (LinkBound id) = false
is_wanted_holder None (LinkReserved number) = true
is_wanted_holder (Some wanted) (LinkReserved number) = number == wanted

unfoldable pub is_for : ℕ → Option ℕ → Link → Bool
is_for nas class link = is_wanted_holder class link.holder && link.nas == nas

abbrev pub has_octets : List ℕ → Option (List ℕ) → Bool
has_octets octets None = false
has_octets octets (Some own) = same_octets own octets

unfoldable pub is_member : ℕ → List ℕ → Link → Bool
is_member nas id link = link.nas == nas && has_octets id link.bundle

-- whether a link is bound, and its last touch was at this clock or before
unfoldable pub is_bound_until : ℕ → Link → Bool
is_bound_until clock link = holds_session link.holder && nat_le link.touched clock

-- whether a link is of a station
unfoldable pub is_of_station : List ℕ → Link → Bool
is_of_station station link = has_octets station link.station

-- of the links that pass a test the one touched longest ago, and of several the first
pub record IsOldest (passes : Link → Bool) (links : List Link) (at : ℕ) : Type 0 where
  pub within : at < length links
  pub passed : passes (link_at links at) ≡ true
  pub oldest : (x : ℕ) → x < length links → passes (link_at links x) ≡ true
      → (link_at links at).touched ≤ (link_at links x).touched
  pub first : (x : ℕ) → x < at → passes (link_at links x) ≡ true
      → (link_at links at).touched < (link_at links x).touched
