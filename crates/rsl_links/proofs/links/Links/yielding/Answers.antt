use Rattle.std.proofs.Common.{ap, sym, ◌∙◌}
use Rattle.rsl_session.specs.Book.{is_stale_at}
use Rattle.rsl_links.specs.declared.link.Link.{Link}
use Rattle.rsl_links.specs.Seen.{link_seen}
use Rattle.rsl_links.proofs.OfLinks.{link_here}
use Rattle.rsl_links.proofs.Yielding.{yields_first, none_bound, none_stale}
use Rattle.rsl_links.proofs.links.Links.yielding.Goals as goal

pub returns-in-None-clause-missed : goal.returns-in-None-clause-missed
returns-in-None-clause-missed c = none_bound c.args.servers.now c.args.rules.now c.args.now c.args.self.now.list.items c.in-None.ensures.missed

pub returns-then-is_stale-clause-found : goal.returns-then-is_stale-clause-found
returns-then-is_stale-clause-found c =
    let oldest = c.in-Some.ensures.found in
    let here = link_here c.args.self.now.list.items c.in-Some.at c.index.result.now oldest.within c.index.ensures in
    yields_first c.args.servers.now c.args.rules.now c.args.now c.args.self.now.list.items c.in-Some.at oldest
    (ap (λ (one : Link). is_stale_at c.args.rules.now c.args.now (link_seen c.args.servers.now one)) (sym here) ∙ sym c.is_stale.ensures ∙ c.if-is_stale.true)

pub returns-else-is_stale-clause-missed : goal.returns-else-is_stale-clause-missed
returns-else-is_stale-clause-missed c =
    let oldest = c.in-Some.ensures.found in
    let here = link_here c.args.self.now.list.items c.in-Some.at c.index.result.now oldest.within c.index.ensures in
    none_stale c.args.servers.now c.args.rules.now c.args.now c.args.self.now.list.items c.in-Some.at oldest
    (ap (λ (one : Link). is_stale_at c.args.rules.now c.args.now (link_seen c.args.servers.now one)) (sym here) ∙ sym c.is_stale.ensures ∙ c.if-is_stale.false)
