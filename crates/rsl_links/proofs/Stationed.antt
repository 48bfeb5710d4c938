-- The links of a station in the order of stations, and the one of them touched longest ago.
use Rattle.std.proofs.Common.{◌≡◌, ℕ, ◌+◌, ◌<◌, ◌≤◌, List, ◌∷◌, get_or, length, Bool, true, false, refl, ap, sym, ◌∙◌, subst, inl, inr, arith}
use Rattle.std.specs.Prelude.{Option, Some, None, is_some, ◌&&◌, ◌==◌}
use Rattle.std.specs.List.{list_any}
use Rattle.std.proofs.lemmas.Bool.{cases_eq, cases_lt, false≢true}
use Rattle.rsl_session.specs.Same.{same_octets}
use Rattle.rsl_links.specs.declared.link.Link.{Link}
use Rattle.rsl_links.specs.declared.order.OrderKind.TheVariants.{Stations}
use Rattle.rsl_links.specs.declared.slots.Slot.{Slot}
use Rattle.rsl_links.specs.LinkList.{IsOldest, has_octets, is_of_station}
use Rattle.rsl_links.specs.Order.{IsSplit, goes_by, is_before, key_at, link_at, octets_of, order_key}
use Rattle.rsl_links.specs.Ranked.{IsOldestUpto, IsRankedIn, slot_key, touched_in}
use Rattle.rsl_links.specs.Slots.{IsRising, links_in}
use Rattle.rsl_links.proofs.Before.{lower_first}
use Rattle.rsl_links.proofs.Ranking.{link_ranked, long_ranked, split_first, split_last}
use Rattle.rsl_links.proofs.Sought.{alike_between, in_turn, key_of, none_above, none_below, of_key, read_link}
use Rattle.rsl_links.proofs.Yielding.{any_nowhere}

-- what goes by the octets of a station is of it
stationed_is : (station : List ℕ) (link : Link) → goes_by Stations 0 station link ≡ is_of_station station link
unfolding goes_by is_of_station
stationed_is station link = by_station link.station where
  by_station : (own : Option (List ℕ)) → (is_some own && 0 == 0 && same_octets (octets_of own) station) ≡ has_octets station own
  by_station None = refl
  by_station (Some octets) = refl

-- of the ranks that were looked at, the one of the link touched longest ago
pub first_looked : (slots : List Slot) (order : List ℕ) (first : ℕ) → IsOldestUpto slots order first (first + 1) first
first_looked slots order first =
    record {
      from = omega arith;
      low = omega arith;
      oldest = λ k from low. let here : k ≡ first = omega (arith, from, low) in let same = ap (touched_in slots order) here in omega (arith, same);
      before = λ k from low. absurd (omega (arith, from, low));
    }

pub older : (slots : List Slot) (order : List ℕ) (first rank oldest : ℕ) → first ≤ rank → touched_in slots order rank < touched_in slots order oldest → IsOldestUpto slots order first rank oldest → IsOldestUpto slots order first (rank + 1) rank
older slots order first rank oldest after less so_far =
    record {
      from = after;
      low = omega arith;
      oldest = λ k from low. elim (cases_eq k rank) [
        | inl here ↦ (let same = ap (touched_in slots order) here in omega (arith, same))
        | inr other ↦ (let later = so_far.oldest k from (omega (arith, low, other)) in omega (arith, later, less))
      ];
      before = λ k from low. let later = so_far.oldest k from low in omega (arith, later, less);
    }

pub not_older : (slots : List Slot) (order : List ℕ) (first rank oldest : ℕ) → touched_in slots order oldest ≤ touched_in slots order rank → IsOldestUpto slots order first rank oldest → IsOldestUpto slots order first (rank + 1) oldest
not_older slots order first rank oldest later so_far =
    record {
      from = so_far.from;
      low = (let low = so_far.low in omega (arith, low));
      oldest = λ k from low. elim (cases_eq k rank) [
        | inl here ↦ (let same = ap (touched_in slots order) here in omega (arith, same, later))
        | inr other ↦ so_far.oldest k from (omega (arith, low, other))
      ];
      before = so_far.before;
    }

-- a link of a station stands between the splits before and after all that have its octets
record StandsBetween (positions : List ℕ) (first end x : ℕ) : Type 0 where
  rank : ℕ
  from : first ≤ rank
  low : rank < end
  within : rank < length positions
  is : get_or positions rank 0 ≡ x

module _ (slots : List Slot) (opened : List ℕ) (r : IsRising slots opened) (order : List ℕ) (ranked : IsRankedIn Stations (links_in slots opened) opened (length (links_in slots opened)) order)
    (station : List ℕ) (first end : ℕ) (from : IsSplit (slot_key Stations slots) order (0 ∷ station, 0) first) (to : IsSplit (slot_key Stations slots) order (0 ∷ station, 18446744073709551615) end) where
  from_seen : IsSplit (key_at Stations (links_in slots opened)) ranked.positions (0 ∷ station, 0) first
  from_seen = split_first Stations slots opened r (length (links_in slots opened)) order ranked (0 ∷ station) first from

  to_seen : IsSplit (key_at Stations (links_in slots opened)) ranked.positions (0 ∷ station, length (links_in slots opened)) end
  to_seen = split_last Stations slots opened r (length (links_in slots opened)) order ranked (0 ∷ station) end to

  long : length order ≡ length ranked.positions
  long = long_ranked Stations (links_in slots opened) opened (length (links_in slots opened)) order ranked

  pub stations_in_turn : first ≤ end
  stations_in_turn = in_turn Stations (links_in slots opened) ranked.positions ranked.in_order (0 ∷ station) first end from_seen to_seen

  alike : (k : ℕ) → first ≤ k → k < end → order_key Stations (link_at (links_in slots opened) (get_or ranked.positions k 0)) ≡ 0 ∷ station
  alike k high low =
      alike_between Stations (links_in slots opened) ranked.positions ranked.in_order (0 ∷ station) first end from_seen to_seen k high low
      (let most = to_seen.within in omega (arith, low, most))

  of_it : (k : ℕ) → first ≤ k → k < end → is_of_station station (link_at (links_in slots opened) (get_or ranked.positions k 0)) ≡ true
  of_it k high low =
      let within : k < length ranked.positions = (let most = to_seen.within in omega (arith, low, most)) in
      sym (stationed_is station (link_at (links_in slots opened) (get_or ranked.positions k 0)))
      ∙ of_key Stations 0 station (link_at (links_in slots opened) (get_or ranked.positions k 0)) (ranked.in_order.each k within).of_kind (alike k high low)

  stands_between : (x : ℕ) → x < length (links_in slots opened) → is_of_station station (link_at (links_in slots opened) x) ≡ true → StandsBetween ranked.positions first end x
  stands_between x within is =
      let key = key_of Stations 0 station (link_at (links_in slots opened) x) (stationed_is station (link_at (links_in slots opened) x) ∙ is) in
      let s = ranked.in_order.all x (record { within = within; other = omega (arith, within); of_kind = key.0 }) in
      let same : order_key Stations (link_at (links_in slots opened) (get_or ranked.positions s.at 0)) ≡ 0 ∷ station =
      ap (λ n. order_key Stations (link_at (links_in slots opened) n)) s.is ∙ key.1 in
      record {
        rank = s.at;
        from = elim (cases_lt s.at first) [
          | inl low ↦ absurd (false≢true (none_below Stations (links_in slots opened) ranked.positions ranked.in_order (0 ∷ station) first end from_seen to_seen s.at low same))
          | inr high ↦ high
        ];
        low = elim (cases_lt s.at end) [
          | inl low ↦ low
          | inr high ↦ absurd (false≢true (none_above Stations (links_in slots opened) ranked.positions ranked.in_order (0 ∷ station) first end from_seen to_seen s.at high s.within same))
        ];
        within = s.within;
        is = s.is;
      }

  touched_there : (k : ℕ) → k < end → touched_in slots order k ≡ (link_at (links_in slots opened) (get_or ranked.positions k 0)).touched
  touched_there k low =
      ap (λ (one : Link). one.touched) (link_ranked Stations slots opened r (length (links_in slots opened)) order ranked k (let most = to.within in omega (arith, low, most)))

  pub oldest_there : (rank : ℕ) → IsOldestUpto slots order first end rank → IsOldest (is_of_station station) (links_in slots opened) (get_or ranked.positions rank 0)
  oldest_there rank oldest =
      let within : rank < length ranked.positions = (let low = oldest.low in let most = to_seen.within in omega (arith, low, most)) in
      let here = touched_there rank oldest.low in
      record {
        within = (ranked.in_order.each rank within).within;
        passed = of_it rank oldest.from oldest.low;
        oldest = λ x inside is.
            let s = stands_between x inside is in
            let later = oldest.oldest s.rank s.from s.low in
            let there = touched_there s.rank s.low ∙ ap (λ n. (link_at (links_in slots opened) n).touched) s.is in
            omega (arith, later, here, there);
        first = λ x low is.
            let s = stands_between x (let inside = (ranked.in_order.each rank within).within in omega (arith, low, inside)) is in
            elim (cases_lt s.rank rank) [
              | inl front ↦ (
                  let later = oldest.before s.rank s.from front in
                  let there = touched_there s.rank s.low ∙ ap (λ n. (link_at (links_in slots opened) n).touched) s.is in
                  omega (arith, later, here, there)
                  )
              | inr back ↦ elim (cases_eq s.rank rank) [
                | inl same ↦ absurd (let e = ap (λ n. get_or ranked.positions n 0) same in let its = s.is in omega (arith, low, e, its))
                | inr past ↦ absurd (
                    let rise = ranked.in_order.rises rank s.rank (omega (arith, back, past)) s.within in
                    let less = lower_first (0 ∷ station) (get_or ranked.positions rank 0) (get_or ranked.positions s.rank 0)
                    (subst (λ (t : List ℕ). is_before (t, get_or ranked.positions rank 0) (0 ∷ station, get_or ranked.positions s.rank 0) ≡ true) (alike rank oldest.from oldest.low)
                    (subst (λ (t : List ℕ). is_before (key_at Stations (links_in slots opened) (get_or ranked.positions rank 0)) (t, get_or ranked.positions s.rank 0) ≡ true) (alike s.rank s.from s.low) rise)) in
                    let its = s.is in
                    omega (arith, low, less, its))
              ]
            ];
      }

  pub none_there : first ≡ end → list_any (is_of_station station) (links_in slots opened) ≡ false
  none_there empty =
      any_nowhere (is_of_station station) (links_in slots opened)
      (λ i d within. ap (is_of_station station) (read_link (links_in slots opened) i d within) ∙ other i within (is_of_station station (link_at (links_in slots opened) i)) refl)
    where
      other : (i : ℕ) → i < length (links_in slots opened) → (b : Bool) → is_of_station station (link_at (links_in slots opened) i) ≡ b → is_of_station station (link_at (links_in slots opened) i) ≡ false
      other i within false e = e
      other i within true e = absurd (let s = stands_between i within e in let from = s.from in let low = s.low in omega (arith, from, low, empty))
