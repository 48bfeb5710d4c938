-- The first of the reserved links that an alive can take: of those that an order lists, the one that opened first.
use Rattle.std.proofs.Common.{◌≡◌, ℕ, ◌+◌, ◌<◌, ◌≤◌, List, get_or, length, Bool, true, false, refl, ap, sym, ◌∙◌, arith, inl, inr}
use Rattle.std.specs.Prelude.{Option, ◌==◌}
use Rattle.std.specs.List.{list_any}
use Rattle.std.proofs.lemmas.Bool.{and_parts, cases_eq, false≢true}
use Rattle.std.proofs.lemmas.List.{length-map}
use Rattle.rsl_links.specs.declared.link.Link.{Link}
use Rattle.rsl_links.specs.declared.link.Holder.{Holder as LinkHolder}
use Rattle.rsl_links.specs.declared.link.Holder.TheVariants.{Reserved as LinkReserved, Bound as LinkBound}
use Rattle.rsl_links.specs.declared.order.OrderKind.TheVariants.{Reserved}
use Rattle.rsl_links.specs.declared.slots.Slot.{Slot}
use Rattle.rsl_links.specs.First.{IsFirst}
use Rattle.rsl_links.specs.LinkList.{is_for, is_wanted_holder}
use Rattle.rsl_links.specs.Order.{Stands, holds_number, link_at}
use Rattle.rsl_links.specs.Ranked.{IsRankedIn}
use Rattle.rsl_links.specs.Slots.{IsRising, link_in, links_in, opened_in}
use Rattle.rsl_links.proofs.Ranking.{inside_ranked, long_ranked, read_ranked}
use Rattle.rsl_links.proofs.Slotted.{link_there}
use Rattle.rsl_links.proofs.Sought.{read_link}
use Rattle.rsl_links.proofs.Yielding.{any_none, any_nowhere}

-- the slot of an order that was found so far, with the number of its opening
pub record IsThere (passes : Link → Bool) (slots : List Slot) (order : List ℕ) (count first opened : ℕ) : Type 0 where
  pub rank : ℕ
  pub low : rank < count
  pub is : first ≡ get_or order rank 0
  pub number : opened ≡ opened_in slots first
  pub passed : passes (link_in slots first) ≡ true

-- of the first that were looked at, it has the lowest number; and where its number is not below the greatest there is none
pub record IsEarliest (passes : Link → Bool) (slots : List Slot) (order : List ℕ) (count first opened : ℕ) : Type 0 where
  pub least : (k : ℕ) → k < count → passes (link_in slots (get_or order k 0)) ≡ true → opened ≤ opened_in slots (get_or order k 0)
  pub found : opened < 18446744073709551615 → IsThere passes slots order count first opened

pub none_yet : (passes : Link → Bool) (slots : List Slot) (order : List ℕ) (first : ℕ) → IsEarliest passes slots order 0 first 18446744073709551615
none_yet passes slots order first = record { least = λ k low. absurd (omega (arith, low)); found = λ less. absurd (omega (arith, less)) }

pub earlier : (passes : Link → Bool) (slots : List Slot) (order : List ℕ) (count first opened slot number : ℕ) → slot ≡ get_or order count 0 → number ≡ opened_in slots slot → number < opened → passes (link_in slots slot) ≡ true
    → IsEarliest passes slots order count first opened → IsEarliest passes slots order (count + 1) slot number
earlier passes slots order count first opened slot number is same less passed so_far =
    record {
      least = λ k low one. elim (cases_eq k count) [
        | inl here ↦ (let e = ap (opened_in slots) (is ∙ sym (ap (λ n. get_or order n 0) here)) in omega (arith, e, same))
        | inr other ↦ (let least = so_far.least k (omega (arith, low, other)) one in omega (arith, least, less))
      ];
      found = λ below. record { rank = count; low = omega arith; is = is; number = same; passed = passed };
    }

pub not_earlier : (passes : Link → Bool) (slots : List Slot) (order : List ℕ) (count first opened slot : ℕ) → slot ≡ get_or order count 0 → (passes (link_in slots slot) ≡ true → opened ≤ opened_in slots slot)
    → IsEarliest passes slots order count first opened → IsEarliest passes slots order (count + 1) first opened
not_earlier passes slots order count first opened slot is later so_far =
    record {
      least = λ k low one. elim (cases_eq k count) [
        | inl here ↦ (
            let e : get_or order k 0 ≡ slot = ap (λ n. get_or order n 0) here ∙ sym is in
            let most = later (sym (ap (λ n. passes (link_in slots n)) e) ∙ one) in
            let same = ap (opened_in slots) e in omega (arith, most, same)
            )
        | inr other ↦ so_far.least k (omega (arith, low, other)) one
      ];
      found = λ below. let there = so_far.found below in record { rank = there.rank; low = (let low = there.low in omega (arith, low)); is = there.is; number = there.number; passed = there.passed };
    }

is_reserved : (nas : ℕ) (class : Option ℕ) (link : Link) → is_for nas class link ≡ true → holds_number link.holder ≡ true
unfolding is_for
is_reserved nas class link wanted = by_holder class link.holder (and_parts (is_wanted_holder class link.holder) (link.nas == nas) wanted).0 where
  by_holder : (class : Option ℕ) (holder : LinkHolder) → is_wanted_holder class holder ≡ true → holds_number holder ≡ true
  by_holder class (LinkReserved number) is = refl
  by_holder class (LinkBound id) is = absurd (false≢true is)

module _ (slots : List Slot) (opened : List ℕ) (r : IsRising slots opened) (order : List ℕ) (ranked : IsRankedIn Reserved (links_in slots opened) opened (length (links_in slots opened)) order) (nas : ℕ) (class : Option ℕ) (first number : ℕ)
    (so_far : IsEarliest (is_for nas class) slots order (length order) first number) where
  inside_opened : (x : ℕ) → x < length (links_in slots opened) → x < length opened
  inside_opened x within = let all = length-map opened (link_in slots) in omega (arith, within, all)

  -- where a link passes, its slot stands in the order
  listed : (x : ℕ) → x < length (links_in slots opened) → is_for nas class (link_at (links_in slots opened) x) ≡ true → number ≤ opened_in slots (get_or opened x 0)
  listed x within passes =
      let stands = ranked.in_order.all x (record { within = within; other = omega (arith, within); of_kind = is_reserved nas class (link_at (links_in slots opened) x) passes }) in
      let long = long_ranked Reserved (links_in slots opened) opened (length (links_in slots opened)) order ranked in
      let w = stands.within in
      let low : stands.at < length order = omega (arith, w, long) in
      let read : get_or order stands.at 0 ≡ get_or opened x 0 = read_ranked Reserved (links_in slots opened) opened (length (links_in slots opened)) order ranked stands.at low ∙ ap (λ n. get_or opened n 0) stands.is in
      let here : is_for nas class (link_in slots (get_or order stands.at 0)) ≡ true = ap (λ n. is_for nas class (link_in slots n)) read ∙ sym (ap (is_for nas class) (link_there slots opened x (inside_opened x within))) ∙ passes in
      let least = so_far.least stands.at low here in
      let same = ap (opened_in slots) read in
      omega (arith, least, same)

  pub none_earliest : 18446744073709551615 ≤ number → list_any (is_for nas class) (links_in slots opened) ≡ false
  none_earliest none = any_nowhere (is_for nas class) (links_in slots opened) (λ i d within. ap (is_for nas class) (read_link (links_in slots opened) i d within) ∙ other i within (is_for nas class (link_at (links_in slots opened) i)) refl) where
    other : (i : ℕ) → i < length (links_in slots opened) → (b : Bool) → is_for nas class (link_at (links_in slots opened) i) ≡ b → is_for nas class (link_at (links_in slots opened) i) ≡ false
    other i within false e = e
    other i within true e = absurd (let most = listed i within e in let below = r.below i (inside_opened i within) in omega (arith, most, below, none))

  pub earliest_stands : number < 18446744073709551615 → Stands opened first
  earliest_stands some =
      let there = so_far.found some in
      let low = there.low in
      let inside = inside_ranked Reserved (links_in slots opened) opened (length (links_in slots opened)) order ranked there.rank low in
      record {
        at = get_or ranked.positions there.rank 0;
        within = inside_opened (get_or ranked.positions there.rank 0) inside;
        is = sym (there.is ∙ read_ranked Reserved (links_in slots opened) opened (length (links_in slots opened)) order ranked there.rank low);
      }

  pub earliest_first : number < 18446744073709551615 → (at : ℕ) → at < length opened → get_or opened at 0 ≡ first → IsFirst (is_for nas class) (links_in slots opened) at
  earliest_first some at within stands =
      let there = so_far.found some in
      let inside : at < length (links_in slots opened) = (let all = length-map opened (link_in slots) in omega (arith, within, all)) in
      let here : is_for nas class (link_at (links_in slots opened) at) ≡ true = ap (is_for nas class) (link_there slots opened at within ∙ ap (link_in slots) stands) ∙ there.passed in
      record {
        within = inside;
        passed = λ d. ap (is_for nas class) (read_link (links_in slots opened) at d inside) ∙ here;
        before = any_none (is_for nas class) (links_in slots opened) at (λ i d low among. ap (is_for nas class) (read_link (links_in slots opened) i d among) ∙ other i low among (is_for nas class (link_at (links_in slots opened) i)) refl);
      }
    where
      other : (i : ℕ) → i < at → i < length (links_in slots opened) → (b : Bool) → is_for nas class (link_at (links_in slots opened) i) ≡ b → is_for nas class (link_at (links_in slots opened) i) ≡ false
      other i low among false e = e
      other i low among true e =
          absurd (let most = listed i among e in let rise = r.rises i at low within in let own = (so_far.found some).number in let same = ap (opened_in slots) stands in omega (arith, most, rise, own, same))
