use Rattle.std.proofs.Common.{◌≡◌, ℕ, List, ◌∙◌, ap, length, sym, subst, arith, rules}
use Rattle.std.specs.Prelude.{Option, Some}
use Rattle.std.specs.Option.{OnSome}
use Rattle.std.specs.VecDeque.{deque_len}
use Rattle.rsl_links.specs.declared.link.Link.{Link}
use Rattle.rsl_links.specs.Ranked.{AreRankedBut}
use Rattle.rsl_links.specs.Order.{is_of}
use Rattle.rsl_links.specs.Slots.{links_of, opened_of}
use Rattle.rsl_links.proofs.Ranking.{ranked_not_there, ranked_withdrawn}
use Rattle.rsl_links.proofs.Slotted.{long_opened}
use Rattle.rsl_links.proofs.order.Order.withdraw.Goals as goal

some_is : (taken : Option ℕ) (x : ℕ) (P : Type 0) → taken ≡ Some x → OnSome taken P → P
some_is taken x P is then = subst (λ (one : Option ℕ). OnSome one P) is then

pub rank_of-rank-requires-clause-kind : goal.rank_of-rank-requires-clause-kind
rank_of-rank-requires-clause-kind c =
    sym (ap (λ (one : Link). is_of c.args.kind one) c.link.ensures) ∙ sym c.holds.ensures ∙ c.if-holds.true

pub returns-then-holds-clause-order : goal.returns-then-holds-clause-order
returns-then-holds-clause-order c =
    let slots = c.args.slots.now in
    let long : deque_len c.args.self.now.slots ≡ length c.args.self.now.slots.items = search rules in
    let inside = c.rank_of-rank.ensures.within in
    let removed = some_is c.remove.result _ _ (c.remove.ensures.succeeds 0 (omega (arith, long, inside))) c.remove.ensures.items in
    let most = long_opened slots.slots.items slots.sequence.items slots.count c.requires.kept.sequenced in
    subst (λ (order : List ℕ). AreRankedBut c.args.kind c.args.slots.now c.args.at order) (sym removed)
    (ranked_withdrawn c.args.kind slots.slots.items (opened_of slots) c.requires.kept.sequenced.rising c.args.self.now.slots.items c.args.at (omega (arith, most, c.requires.within)) c.requires.order
    c.rank_of-rank.result c.rank_of-rank.ensures.within c.rank_of-rank.ensures.stands)

pub returns-else-holds-clause-order : goal.returns-else-holds-clause-order
returns-else-holds-clause-order c =
    ranked_not_there c.args.kind (links_of c.args.slots.now) (opened_of c.args.slots.now) c.args.self.now.slots.items c.args.at c.requires.order
    (sym (ap (λ (one : Link). is_of c.args.kind one) c.link.ensures) ∙ sym c.holds.ensures ∙ c.if-holds.false)
