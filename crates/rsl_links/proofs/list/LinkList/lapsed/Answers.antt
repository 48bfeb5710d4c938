use Rattle.std.proofs.Common.{◌≡◌, ◌<◌, ℕ, List, length, false, ap, sym, ◌∙◌, subst, arith}
use Rattle.std.proofs.lemmas.Option.{IfSome_then}
use Rattle.rsl_session.specs.BookLinks.{lapses_at}
use Rattle.rsl_links.specs.declared.link.Link.{Link}
use Rattle.rsl_links.specs.LinkList.{RoomyList}
use Rattle.rsl_links.specs.Order.{link_at}
use Rattle.rsl_links.specs.Seen.{link_seen}
use Rattle.rsl_links.specs.Slots.{links_of}
use Rattle.rsl_links.proofs.Indexed.{none_then}
use Rattle.rsl_links.proofs.Standing.{none_lapses_of_both, not_none, where_none}
use Rattle.rsl_links.proofs.list.LinkList.lapsed.Goals as goal

pub returns-then-is_some-clause-within : goal.returns-then-is_some-clause-within
returns-then-is_some-clause-within c =
    let items = ap (λ (value : RoomyList). length value.items) c.self.view_is in
    IfSome_then c.first_lapsed-one.result c.first_lapsed-one.ensures.within (λ at low. omega (arith, items, low))

pub returns-then-is_some-clause-found : goal.returns-then-is_some-clause-found
returns-then-is_some-clause-found c =
    IfSome_then c.first_lapsed-one.result c.first_lapsed-one.ensures.found
    (λ at is. ap (λ (value : RoomyList). lapses_at c.args.rules.now c.args.now (link_seen c.args.servers.now (link_at value.items at))) (sym c.self.view_is) ∙ is)

pub returns-then-is_some-clause-missed : goal.returns-then-is_some-clause-missed
returns-then-is_some-clause-missed c = not_none c.first_lapsed-one.result _ (sym c.is_some.ensures ∙ c.if-is_some.true)

pub returns-clause-within : goal.returns-clause-within
returns-clause-within c =
    let items = ap (λ (value : RoomyList). length value.items) c.self.view_is in
    IfSome_then c.first_lapsed.result c.first_lapsed.ensures.within (λ at low. omega (arith, items, low))

pub returns-clause-found : goal.returns-clause-found
returns-clause-found c =
    IfSome_then c.first_lapsed.result c.first_lapsed.ensures.found
    (λ at is. ap (λ (value : RoomyList). lapses_at c.args.rules.now c.args.now (link_seen c.args.servers.now (link_at value.items at))) (sym c.self.view_is) ∙ is)

pub returns-clause-missed : goal.returns-clause-missed
returns-clause-missed c =
    let links = links_of c.self.inside.slots in
    none_then c.first_lapsed.result c.first_lapsed.ensures.missed
    (λ none. subst (λ (xs : List Link). (at : ℕ) → at < length xs → lapses_at c.args.rules.now c.args.now (link_seen c.args.servers.now (link_at xs at)) ≡ false)
    (ap (λ (value : RoomyList). value.items) c.self.view_is)
    (none_lapses_of_both c.args.servers.now c.args.rules.now c.args.now links
    (where_none c.first_lapsed-one.result _ (sym c.is_some.ensures ∙ c.if-is_some.false) c.first_lapsed-one.ensures.missed) none))
