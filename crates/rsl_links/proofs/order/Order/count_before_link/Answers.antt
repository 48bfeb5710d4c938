use Rattle.std.proofs.Common.{◌≡◌, ℕ, ◌-◌, ◌<◌, ◌∷◌, length, ap, sym, ◌∙◌, subst, arith, rules}
use Rattle.rsl_links.specs.Ranked.{slot_key}
use Rattle.rsl_links.specs.Order.{Key, IsSplit, is_before, order_key}
use Rattle.rsl_links.proofs.Ranking.{entry_here, listed_entry}
use Rattle.rsl_links.proofs.Orders.{split_at_end}
use Rattle.rsl_links.proofs.order.Order.count_before_link.Goals as goal

pub returns-then-is_before : goal.returns-then-is_before
returns-then-is_before c =
    let slots = c.args.slots.now.slots.items in
    let own : (c.number-number.result ∷ c.octets-octets.result.now, c.index-own.result.now.opened) ≡ slot_key c.args.kind slots c.args.slot =
    rw (c.number-number.ensures, c.octets-octets.ensures) (entry_here c.args.kind slots c.args.slot c.index-own.result.now c.requires.within c.index-own.ensures) in
    let end : ℕ = c.len-end.result in
    let long : end ≡ length c.args.self.now.slots.items = search rules in
    let some : 0 < end = c.if-end-gt0.true in
    let here = listed_entry c.args.kind slots c.args.self.now.slots.items c.requires.order (end - 1) c.index-last.result.now c.index.result.now (omega (arith, long, some)) c.index-last.ensures c.index.ensures in
    split_at_end c.args.kind slots c.args.self.now.slots.items c.requires.order (slot_key c.args.kind slots c.args.slot) end long some
    (ap (λ (e : Key). is_before e (slot_key c.args.kind slots c.args.slot)) (sym here)
    ∙ sym (c.is_before.ensures ∙ ap (λ (e : Key). is_before (order_key c.args.kind c.index.result.now.link, c.index.result.now.opened) e) own) ∙ c.if-is_before.true)

pub returns : goal.returns
returns c =
    let slots = c.args.slots.now.slots.items in
    let own : (c.number-number.result ∷ c.octets-octets.result.now, c.index-own.result.now.opened) ≡ slot_key c.args.kind slots c.args.slot =
    rw (c.number-number.ensures, c.octets-octets.ensures) (entry_here c.args.kind slots c.args.slot c.index-own.result.now c.requires.within c.index-own.ensures) in
    subst (λ (target : Key). IsSplit (slot_key c.args.kind slots) c.args.self.now.slots.items target c.count_before.result) own c.count_before.ensures
