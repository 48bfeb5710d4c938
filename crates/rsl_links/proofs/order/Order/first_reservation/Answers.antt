use Rattle.std.proofs.Common.{◌≡◌, ℕ, ◌+◌, ◌<◌, get_or, length, ap, sym, ◌∙◌, subst, arith, rules}
use Rattle.std.specs.Vec.{vec_len}
use Rattle.std.proofs.lemmas.Bool.{false≢true}
use Rattle.std.proofs.lemmas.List.{get_or_default}
use Rattle.rsl_links.specs.declared.order.OrderKind.TheVariants.{Reserved}
use Rattle.rsl_links.specs.declared.slots.Slot.{Slot}
use Rattle.rsl_links.specs.LinkList.{is_for}
use Rattle.rsl_links.specs.Ranked.{IsRankedIn}
use Rattle.rsl_links.specs.Slots.{links_of, no_slot, opened_in, opened_of}
use Rattle.rsl_links.proofs.Earliest.{IsEarliest, earlier, earliest_first, earliest_stands, none_earliest, none_yet, not_earlier}
use Rattle.rsl_links.proofs.OfLinks.{listed_here}
use Rattle.rsl_links.proofs.Ranking.{listed_within, searchable}
use Rattle.rsl_links.proofs.Slotted.{long_opened}
use Rattle.rsl_links.proofs.order.Order.first_reservation.Goals.{then-one-opened+then-is_for, else-one-opened, else-one-opened-via-then-one-opened+else-is_for, else-one-opened-via-else-one-opened}
use Rattle.rsl_links.proofs.order.Order.first_reservation.Goals as goal

pub loop-rank-init : goal.loop-rank-init
loop-rank-init c = none_yet (is_for c.args.nas c.args.class) c.args.slots.now.slots.items c.args.self.now.slots.items 0

pub index-one-requires : goal.index-one-requires
index-one-requires c =
    let slots = c.args.slots.now in
    let order = c.args.self.now.slots.items in
    let long : c.len-rank-end.result ≡ length order = search rules in
    let many : vec_len slots.slots ≡ length slots.slots.items = search rules in
    let less = c.loop-rank-test.true in
    let low = listed_within Reserved slots.slots.items order
    (searchable Reserved slots.slots.items (opened_of slots) c.requires.kept.sequenced.rising (length (links_of slots)) order c.requires.order)
    c.loop-rank.rank c.index-slot.result.now (omega (arith, long, less)) c.index-slot.ensures in
    omega (arith, many, low)

pub loop-rank-preserved : goal.loop-rank-preserved
loop-rank-preserved c =
    let all = c.args.slots.now in
    let slots = c.args.slots.now.slots.items in
    let order = c.args.self.now.slots.items in
    let rank : ℕ = c.loop-rank.rank in
    let slot : ℕ = c.index-slot.result.now in
    let long : c.len-rank-end.result ≡ length order = search rules in
    let less = c.loop-rank-test.true in
    let within : rank < length order = omega (arith, long, less) in
    let stands : slot ≡ get_or order rank 0 = listed_here order rank slot within c.index-slot.ensures in
    let low : slot < length slots =
    listed_within Reserved slots order (searchable Reserved slots (opened_of all) c.requires.kept.sequenced.rising (length (links_of all)) order c.requires.order) rank slot within c.index-slot.ensures in
    let one : c.index-one.result.now ≡ get_or slots slot no_slot = c.index-one.ensures ∙ get_or_default slots slot c.index-one.result.now no_slot low in
    let same : c.index-one.result.now.opened ≡ opened_in slots slot = ap (λ (s : Slot). s.opened) one in
    elim c.if-one-opened.branch [
      | then-one-opened+then-is_for w ↦ subst (λ (n : ℕ). IsEarliest (is_for c.args.nas c.args.class) slots order (rank + 1) n c.if-one-opened.opened) (sym w.first-is)
          (subst (λ (n : ℕ). IsEarliest (is_for c.args.nas c.args.class) slots order (rank + 1) slot n) (sym w.opened-is)
          (earlier (is_for c.args.nas c.args.class) slots order rank c.loop-rank.first c.loop-rank.opened slot c.index-one.result.now.opened stands same w.if-one-opened.true
          (ap (λ (s : Slot). is_for c.args.nas c.args.class s.link) (sym one) ∙ sym w.is_for.ensures ∙ w.if-is_for.true) c.loop-rank.invariant))
      | else-one-opened w ↦ subst (λ (n : ℕ). IsEarliest (is_for c.args.nas c.args.class) slots order (rank + 1) n c.if-one-opened.opened) (sym w.first-is)
          (subst (λ (n : ℕ). IsEarliest (is_for c.args.nas c.args.class) slots order (rank + 1) c.loop-rank.first n) (sym w.opened-is)
          (not_earlier (is_for c.args.nas c.args.class) slots order rank c.loop-rank.first c.loop-rank.opened slot stands
          (elim w.else-one-opened.branch [
            | else-one-opened-via-then-one-opened+else-is_for v ↦ λ passes. absurd (false≢true (sym (ap (λ (s : Slot). is_for c.args.nas c.args.class s.link) (sym one) ∙ sym v.is_for.ensures ∙ v.if-is_for.false) ∙ passes))
            | else-one-opened-via-else-one-opened v ↦ λ passes. let most = v.if-one-opened.false in omega (arith, most, same)
          ]) c.loop-rank.invariant))
    ]

pub position-requires-clause-stands : goal.position-requires-clause-stands
position-requires-clause-stands c =
    let slots = c.args.slots.now in
    let order = c.args.self.now.slots.items in
    let opened = opened_of slots in
    let rising = c.requires.kept.sequenced.rising in
    let ranked : IsRankedIn Reserved (links_of slots) opened (length (links_of slots)) order = c.requires.order in
    let long : c.len-rank-end.result ≡ length order = search rules in
    let past = c.loop-rank-test.false in
    let most = c.loop-rank.auto.rank-end in
    let all : c.loop-rank.rank ≡ length order = omega (arith, long, past, most) in
    let so_far : IsEarliest (is_for c.args.nas c.args.class) slots.slots.items order (length order) c.loop-rank.first c.loop-rank.opened =
    subst (λ (n : ℕ). IsEarliest (is_for c.args.nas c.args.class) slots.slots.items order n c.loop-rank.first c.loop-rank.opened) all c.loop-rank.invariant in
    earliest_stands slots.slots.items opened rising order ranked c.args.nas c.args.class c.loop-rank.first c.loop-rank.opened so_far c.if-opened-lt18446744073709551615.true

pub returns-then-opened-lt18446744073709551615-clause-found : goal.returns-then-opened-lt18446744073709551615-clause-found
returns-then-opened-lt18446744073709551615-clause-found c =
    let slots = c.args.slots.now in
    let order = c.args.self.now.slots.items in
    let opened = opened_of slots in
    let rising = c.requires.kept.sequenced.rising in
    let ranked : IsRankedIn Reserved (links_of slots) opened (length (links_of slots)) order = c.requires.order in
    let long : c.len-rank-end.result ≡ length order = search rules in
    let past = c.loop-rank-test.false in
    let most = c.loop-rank.auto.rank-end in
    let all : c.loop-rank.rank ≡ length order = omega (arith, long, past, most) in
    let so_far : IsEarliest (is_for c.args.nas c.args.class) slots.slots.items order (length order) c.loop-rank.first c.loop-rank.opened =
    subst (λ (n : ℕ). IsEarliest (is_for c.args.nas c.args.class) slots.slots.items order n c.loop-rank.first c.loop-rank.opened) all c.loop-rank.invariant in
    let few = long_opened slots.slots.items slots.sequence.items slots.count c.requires.kept.sequenced in
    let low = c.position.ensures.within in
    earliest_first slots.slots.items opened rising order ranked c.args.nas c.args.class c.loop-rank.first c.loop-rank.opened so_far c.if-opened-lt18446744073709551615.true
    c.position.result (omega (arith, few, low)) c.position.ensures.stands

pub returns-else-opened-lt18446744073709551615-clause-missed : goal.returns-else-opened-lt18446744073709551615-clause-missed
returns-else-opened-lt18446744073709551615-clause-missed c =
    let slots = c.args.slots.now in
    let order = c.args.self.now.slots.items in
    let opened = opened_of slots in
    let rising = c.requires.kept.sequenced.rising in
    let ranked : IsRankedIn Reserved (links_of slots) opened (length (links_of slots)) order = c.requires.order in
    let long : c.len-rank-end.result ≡ length order = search rules in
    let past = c.loop-rank-test.false in
    let most = c.loop-rank.auto.rank-end in
    let all : c.loop-rank.rank ≡ length order = omega (arith, long, past, most) in
    let so_far : IsEarliest (is_for c.args.nas c.args.class) slots.slots.items order (length order) c.loop-rank.first c.loop-rank.opened =
    subst (λ (n : ℕ). IsEarliest (is_for c.args.nas c.args.class) slots.slots.items order n c.loop-rank.first c.loop-rank.opened) all c.loop-rank.invariant in
    none_earliest slots.slots.items opened rising order ranked c.args.nas c.args.class c.loop-rank.first c.loop-rank.opened so_far c.if-opened-lt18446744073709551615.false
