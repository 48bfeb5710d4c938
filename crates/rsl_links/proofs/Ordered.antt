-- The orders of a book's links together: of none, and of one more, less or changed.
use Rattle.std.proofs.Common.{◌≡◌, ℕ, ◌<◌, ◌≤◌, List, [], length, refl, subst, arith}
use Rattle.std.specs.Prelude.{Option}
use Rattle.std.proofs.lemmas.List.{length-map}
use Rattle.rsl_links.specs.declared.link.Link.{Link}
use Rattle.rsl_links.specs.declared.list.Orders.{Orders}
use Rattle.rsl_links.specs.declared.order.Order.{Order}
use Rattle.rsl_links.specs.declared.order.OrderKind.TheVariants.{Reserved, Bound, Sessions, Bundles, Stations}
use Rattle.rsl_links.specs.declared.slots.Slots.{Slots}
use Rattle.rsl_links.specs.Changed.{joined_link, renewed_link, stationed_link}
use Rattle.rsl_links.specs.Ranked.{IsRankedOf}
use Rattle.rsl_links.specs.LinkList.{AreNoOrders, AreOrders, AreOrdersBut, HaveOrdersRoom}
use Rattle.rsl_links.specs.Slots.{IsChanged, IsKept, IsLess, IsMore, link_in, links_of, opened_of}
use Rattle.rsl_links.proofs.Ranking.{ranked_changed, ranked_closed, ranked_grown, ranked_kept, no_ranked}
use Rattle.rsl_links.proofs.Slotted.{long_links}

pub no_orders : (slots : Slots) (orders : Orders) → links_of slots ≡ [] → AreNoOrders orders → AreOrders slots orders
no_orders slots orders none empty =
    record {
      reserved = no_ranked Reserved (links_of slots) (opened_of slots) orders.reserved.slots.items none empty.reserved;
      bound = no_ranked Bound (links_of slots) (opened_of slots) orders.bound.slots.items none empty.bound;
      sessions = no_ranked Sessions (links_of slots) (opened_of slots) orders.sessions.slots.items none empty.sessions;
      bundles = no_ranked Bundles (links_of slots) (opened_of slots) orders.bundles.slots.items none empty.bundles;
      stations = no_ranked Stations (links_of slots) (opened_of slots) orders.stations.slots.items none empty.stations;
    }

as_long : (slots : Slots) → length (links_of slots) ≡ length (opened_of slots)
as_long slots = length-map (opened_of slots) (link_in slots.slots.items)

pub orders_grown : (link : Link) (old new : Slots) (orders : Orders) → IsKept old → IsMore link old new → AreOrders old orders → AreOrdersBut new old.count orders
orders_grown link old new orders kept more are =
    subst (λ (n : ℕ). AreOrdersBut new n orders) (long_links old kept)
    (record {
      reserved = ranked_grown Reserved link old new orders.reserved.slots.items (as_long old) more are.reserved;
      bound = ranked_grown Bound link old new orders.bound.slots.items (as_long old) more are.bound;
      sessions = ranked_grown Sessions link old new orders.sessions.slots.items (as_long old) more are.sessions;
      bundles = ranked_grown Bundles link old new orders.bundles.slots.items (as_long old) more are.bundles;
      stations = ranked_grown Stations link old new orders.stations.slots.items (as_long old) more are.stations;
    })

pub orders_closed : (at : ℕ) (old new : Slots) (orders : Orders) → IsKept old → at < old.count → IsLess at old new → AreOrdersBut old at orders → AreOrders new orders
orders_closed at old new orders kept within less are =
    let inside : at < length (links_of old) = (let long = long_links old kept in omega (arith, long, within)) in
    record {
      reserved = ranked_closed Reserved at old new orders.reserved.slots.items inside (as_long old) less are.reserved;
      bound = ranked_closed Bound at old new orders.bound.slots.items inside (as_long old) less are.bound;
      sessions = ranked_closed Sessions at old new orders.sessions.slots.items inside (as_long old) less are.sessions;
      bundles = ranked_closed Bundles at old new orders.bundles.slots.items inside (as_long old) less are.bundles;
      stations = ranked_closed Stations at old new orders.stations.slots.items inside (as_long old) less are.stations;
    }

pub orders_changed : (f : Link → Link) (at : ℕ) (old new : Slots) (orders : Orders) → IsChanged at f old new → AreOrdersBut old at orders → AreOrdersBut new at orders
orders_changed f at old new orders changes are =
    record {
      reserved = ranked_changed Reserved f at old new orders.reserved.slots.items changes are.reserved;
      bound = ranked_changed Bound f at old new orders.bound.slots.items changes are.bound;
      sessions = ranked_changed Sessions f at old new orders.sessions.slots.items changes are.sessions;
      bundles = ranked_changed Bundles f at old new orders.bundles.slots.items changes are.bundles;
      stations = ranked_changed Stations f at old new orders.stations.slots.items changes are.stations;
    }

pub roomy_for : (most few : ℕ) (orders : Orders) → few ≤ most → HaveOrdersRoom most orders → HaveOrdersRoom few orders
roomy_for most few orders less roomy =
    record {
      reserved = let room = roomy.reserved in omega (arith, less, room);
      bound = let room = roomy.bound in omega (arith, less, room);
      sessions = let room = roomy.sessions in omega (arith, less, room);
      bundles = let room = roomy.bundles in omega (arith, less, room);
      stations = let room = roomy.stations in omega (arith, less, room);
    }

-- a link is changed, and not in what the order goes by
pub renewed_sessions : (now : ℕ) (at : ℕ) (old new : Slots) (order : Order) → at < length (links_of old) → IsChanged at (renewed_link now) old new → IsRankedOf Sessions old order → IsRankedOf Sessions new order
unfolding renewed_link
renewed_sessions now at old new order within changes ranked = ranked_kept Sessions (renewed_link now) (λ one. refl) (λ one. refl) at old new order.slots.items within changes ranked

pub renewed_bundles : (now : ℕ) (at : ℕ) (old new : Slots) (order : Order) → at < length (links_of old) → IsChanged at (renewed_link now) old new → IsRankedOf Bundles old order → IsRankedOf Bundles new order
unfolding renewed_link
renewed_bundles now at old new order within changes ranked = ranked_kept Bundles (renewed_link now) (λ one. refl) (λ one. refl) at old new order.slots.items within changes ranked

pub renewed_stations : (now : ℕ) (at : ℕ) (old new : Slots) (order : Order) → at < length (links_of old) → IsChanged at (renewed_link now) old new → IsRankedOf Stations old order → IsRankedOf Stations new order
unfolding renewed_link
renewed_stations now at old new order within changes ranked = ranked_kept Stations (renewed_link now) (λ one. refl) (λ one. refl) at old new order.slots.items within changes ranked

pub joined_reserved : (bundle : Option (List ℕ)) (at : ℕ) (old new : Slots) (order : Order) → at < length (links_of old) → IsChanged at (joined_link bundle) old new → IsRankedOf Reserved old order → IsRankedOf Reserved new order
unfolding joined_link
joined_reserved bundle at old new order within changes ranked = ranked_kept Reserved (joined_link bundle) (λ one. refl) (λ one. refl) at old new order.slots.items within changes ranked

pub joined_bound : (bundle : Option (List ℕ)) (at : ℕ) (old new : Slots) (order : Order) → at < length (links_of old) → IsChanged at (joined_link bundle) old new → IsRankedOf Bound old order → IsRankedOf Bound new order
unfolding joined_link
joined_bound bundle at old new order within changes ranked = ranked_kept Bound (joined_link bundle) (λ one. refl) (λ one. refl) at old new order.slots.items within changes ranked

pub joined_sessions : (bundle : Option (List ℕ)) (at : ℕ) (old new : Slots) (order : Order) → at < length (links_of old) → IsChanged at (joined_link bundle) old new → IsRankedOf Sessions old order → IsRankedOf Sessions new order
unfolding joined_link
joined_sessions bundle at old new order within changes ranked = ranked_kept Sessions (joined_link bundle) (λ one. refl) (λ one. refl) at old new order.slots.items within changes ranked

pub joined_stations : (bundle : Option (List ℕ)) (at : ℕ) (old new : Slots) (order : Order) → at < length (links_of old) → IsChanged at (joined_link bundle) old new → IsRankedOf Stations old order → IsRankedOf Stations new order
unfolding joined_link
joined_stations bundle at old new order within changes ranked = ranked_kept Stations (joined_link bundle) (λ one. refl) (λ one. refl) at old new order.slots.items within changes ranked

pub moved_reserved : (station : Option (List ℕ)) (at : ℕ) (old new : Slots) (order : Order) → at < length (links_of old) → IsChanged at (stationed_link station) old new → IsRankedOf Reserved old order → IsRankedOf Reserved new order
unfolding stationed_link
moved_reserved station at old new order within changes ranked = ranked_kept Reserved (stationed_link station) (λ one. refl) (λ one. refl) at old new order.slots.items within changes ranked

pub moved_bound : (station : Option (List ℕ)) (at : ℕ) (old new : Slots) (order : Order) → at < length (links_of old) → IsChanged at (stationed_link station) old new → IsRankedOf Bound old order → IsRankedOf Bound new order
unfolding stationed_link
moved_bound station at old new order within changes ranked = ranked_kept Bound (stationed_link station) (λ one. refl) (λ one. refl) at old new order.slots.items within changes ranked

pub moved_sessions : (station : Option (List ℕ)) (at : ℕ) (old new : Slots) (order : Order) → at < length (links_of old) → IsChanged at (stationed_link station) old new → IsRankedOf Sessions old order → IsRankedOf Sessions new order
unfolding stationed_link
moved_sessions station at old new order within changes ranked = ranked_kept Sessions (stationed_link station) (λ one. refl) (λ one. refl) at old new order.slots.items within changes ranked

pub moved_bundles : (station : Option (List ℕ)) (at : ℕ) (old new : Slots) (order : Order) → at < length (links_of old) → IsChanged at (stationed_link station) old new → IsRankedOf Bundles old order → IsRankedOf Bundles new order
unfolding stationed_link
moved_bundles station at old new order within changes ranked = ranked_kept Bundles (stationed_link station) (λ one. refl) (λ one. refl) at old new order.slots.items within changes ranked
