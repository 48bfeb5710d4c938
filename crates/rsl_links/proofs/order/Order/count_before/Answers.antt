use Rattle.std.proofs.Common.{◌≡◌, ℕ, ◌+◌, ◌-◌, ◌/◌, ◌<◌, ◌∷◌, length, ap, sym, ◌∙◌, arith, rules}
use Rattle.std.specs.Vec.{vec_len}
use Rattle.std.specs.VecDeque.{deque_len}
use Rattle.rsl_links.specs.Order.{is_before, Key}
use Rattle.rsl_links.proofs.Orders.{low_part, high_part}
use Rattle.rsl_links.proofs.Ranking.{listed_entry, listed_within}
use Rattle.rsl_links.proofs.order.Order.count_before.Goals as goal

pub index-slot-requires : goal.index-slot-requires
index-slot-requires c =
    let long : deque_len c.args.self.now.slots ≡ length c.args.self.now.slots.items = search rules in
    let less = c.loop-low-test.true in
    let top = c.loop-low.invariant.inside in
    omega (arith, long, less, top)

pub index-requires : goal.index-requires
index-requires c =
    let middle : ℕ = c.loop-low.low + (c.loop-low.high - c.loop-low.low) / 2 in
    let less = c.loop-low-test.true in
    let top = c.loop-low.invariant.inside in
    let all : vec_len c.args.slots.now.slots ≡ length c.args.slots.now.slots.items = search rules in
    let low = listed_within c.args.kind c.args.slots.now.slots.items c.args.self.now.slots.items c.requires middle c.index-slot.result.now (omega (arith, less, top)) c.index-slot.ensures in
    omega (arith, all, low)

pub loop-low-preserved-then-is_before : goal.loop-low-preserved-then-is_before
loop-low-preserved-then-is_before c =
    let middle : ℕ = c.loop-low.low + (c.loop-low.high - c.loop-low.low) / 2 in
    let so_far = c.loop-low.invariant in
    let less = c.loop-low-test.true in
    let top = so_far.inside in
    let within : middle < length c.args.self.now.slots.items = omega (arith, less, top) in
    let here = listed_entry c.args.kind c.args.slots.now.slots.items c.args.self.now.slots.items c.requires middle c.index-slot.result.now c.index.result.now within c.index-slot.ensures c.index.ensures in
    record {
      within = omega (arith, less, top);
      inside = so_far.inside;
      before = low_part c.args.kind c.args.slots.now.slots.items c.args.self.now.slots.items c.requires (c.args.number ∷ c.args.octets.now, c.args.opened) middle within
          (ap (λ (e : Key). is_before e (c.args.number ∷ c.args.octets.now, c.args.opened)) (sym here) ∙ sym c.is_before.ensures ∙ c.if-is_before.true);
      after = so_far.after;
    }

pub loop-low-preserved : goal.loop-low-preserved
loop-low-preserved c =
    let middle : ℕ = c.loop-low.low + (c.loop-low.high - c.loop-low.low) / 2 in
    let so_far = c.loop-low.invariant in
    let less = c.loop-low-test.true in
    let top = so_far.inside in
    let within : middle < length c.args.self.now.slots.items = omega (arith, less, top) in
    let here = listed_entry c.args.kind c.args.slots.now.slots.items c.args.self.now.slots.items c.requires middle c.index-slot.result.now c.index.result.now within c.index-slot.ensures c.index.ensures in
    record {
      within = omega (arith, less, top);
      inside = omega (arith, less, top);
      before = so_far.before;
      after = high_part c.args.kind c.args.slots.now.slots.items c.args.self.now.slots.items c.requires (c.args.number ∷ c.args.octets.now, c.args.opened) middle
          (ap (λ (e : Key). is_before e (c.args.number ∷ c.args.octets.now, c.args.opened)) (sym here) ∙ sym c.is_before.ensures ∙ c.if-is_before.false);
    }
