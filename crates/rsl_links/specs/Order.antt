-- An order lists some links of a book, here by their positions, while a book itself keeps their
-- slots: the reserved or the bound links by their last touch, the bound links by their sessions, the
-- links in bundles by their bundles, or the links that have a station by it. Links with equal sort
-- keys are in the order in which they opened.
use Rattle.std.specs.Prelude.{◌≡◌, ◌≢◌, ℕ, ◌<◌, ◌≤◌, List, [], ◌∷◌, get_or, length, ◌==◌, ◌&&◌, Bool, true, false, is_some, Option, None, Some}
use Rattle.std.specs.Ordering.{ordering_then, nat_cmp, is_lt}
use Rattle.std.specs.declared.cmp.Ordering.{Ordering}
use Rattle.std.specs.Cmp.Lexicographic.{slice_cmp}
use Rattle.rsl_session.specs.Same.{same_octets}
use Rattle.rsl_links.specs.declared.link.Link.{Link}
use Rattle.rsl_links.specs.declared.link.Holder.{Holder as LinkHolder}
use Rattle.rsl_links.specs.declared.link.Holder.TheVariants.{Reserved as LinkReserved, Bound as LinkBound}
use Rattle.rsl_links.specs.declared.order.OrderKind.{OrderKind}
use Rattle.rsl_links.specs.declared.order.OrderKind.TheVariants.{Reserved, Bound, Sessions, Bundles, Stations}

-- the sort key of an order: numbers, and then the position
abbrev pub Key : Type 0
Key = List ℕ × ℕ

abbrev pub key_cmp : Key → Key → Ordering
key_cmp one other = ordering_then (slice_cmp nat_cmp one.0 other.0) (nat_cmp one.1 other.1)

unfoldable pub is_before : Key → Key → Bool
is_before one other = is_lt (key_cmp one other)

-- the entries of an order that come before an entry are its first ones
pub record IsSplit (entry : ℕ → Key) (order : List ℕ) (target : Key) (at : ℕ) : Type 0 where
  pub within : at ≤ length order
  pub before : (k : ℕ) → k < at → is_before (entry (get_or order k 0)) target ≡ true
  pub after : (k : ℕ) → at ≤ k → k < length order
      → is_before (entry (get_or order k 0)) target ≡ false

-- the position of a number in a list
pub record Stands (order : List ℕ) (x : ℕ) : Type 0 where
  pub at : ℕ
  pub within : at < length order
  pub is : get_or order at 0 ≡ x

-- a list has exactly the listed numbers, in their order
pub record IsOrder (listed : ℕ → Type 0) (entry : ℕ → Key) (order : List ℕ) : Type 0 where
  pub each : (k : ℕ) → k < length order → listed (get_or order k 0)
  pub rises : (j k : ℕ) → j < k → k < length order
      → is_before (entry (get_or order j 0)) (entry (get_or order k 0)) ≡ true
  pub all : (x : ℕ) → listed x → Stands order x

-- the link at a position, and past the end one that is never looked at
abbrev pub no_link : Link
no_link =
    record {
      nas = 0;
      touched = 0;
      holder = LinkReserved 0;
      bundle = None;
      station = None;
      opened = 0;
    }

abbrev pub link_at : List Link → ℕ → Link
link_at links at = get_or links at no_link

abbrev pub holds_session : LinkHolder → Bool
holds_session (LinkReserved number) = false
holds_session (LinkBound id) = true

abbrev pub holds_number : LinkHolder → Bool
holds_number (LinkReserved number) = true
holds_number (LinkBound id) = false

abbrev pub id_of : LinkHolder → List ℕ
id_of (LinkReserved number) = []
id_of (LinkBound id) = id

-- the octets of a bundle or a station
abbrev pub octets_of : Option (List ℕ) → List ℕ
octets_of None = []
octets_of (Some octets) = octets

-- the links of a kind, and their sort key: a number, and octets
abbrev pub is_of : OrderKind → Link → Bool
is_of Reserved link = holds_number link.holder
is_of Bound link = holds_session link.holder
is_of Sessions link = holds_session link.holder
is_of Bundles link = is_some link.bundle
is_of Stations link = is_some link.station

abbrev pub order_number : OrderKind → Link → ℕ
order_number Reserved link = link.touched
order_number Bound link = link.touched
order_number Sessions link = link.nas
order_number Bundles link = link.nas
order_number Stations link = 0

abbrev pub order_octets : OrderKind → Link → List ℕ
order_octets Reserved link = []
order_octets Bound link = []
order_octets Sessions link = id_of link.holder
order_octets Bundles link = octets_of link.bundle
order_octets Stations link = octets_of link.station

abbrev pub order_key : OrderKind → Link → List ℕ
order_key kind link = order_number kind link ∷ order_octets kind link

-- whether a link is of a kind and has this sort key
unfoldable pub goes_by : OrderKind → ℕ → List ℕ → Link → Bool
goes_by kind number octets link =
    is_of kind link && order_number kind link == number
    && same_octets (order_octets kind link) octets

abbrev pub key_at : OrderKind → List Link → ℕ → Key
key_at kind links at = (order_key kind (link_at links at), at)

-- the positions of the links of a kind, except one
pub record IsListed (kind : OrderKind) (links : List Link) (but at : ℕ) : Type 0 where
  pub within : at < length links
  pub other : at ≢ but
  pub of_kind : is_of kind (link_at links at) ≡ true

-- an order of the links of a kind, except one; and of all of them
abbrev pub IsOrderBut : OrderKind → List Link → ℕ → List ℕ → Type 0
IsOrderBut kind links but order = IsOrder (IsListed kind links but) (key_at kind links) order

abbrev pub IsOrderOf : OrderKind → List Link → List ℕ → Type 0
IsOrderOf kind links order = IsOrderBut kind links (length links) order

-- whether an order is by the last touch
abbrev pub is_by_touch : OrderKind → Bool
is_by_touch Reserved = true
is_by_touch Bound = true
is_by_touch Sessions = false
is_by_touch Bundles = false
is_by_touch Stations = false
