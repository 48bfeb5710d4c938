use Rattle.std.proofs.Common.{sym, ◌∙◌}
use Rattle.rsl_session.specs.BookLinks.{is_link_of}
use Rattle.rsl_links.specs.Seen.{links_seen}
use Rattle.rsl_links.proofs.Yielding.{ended_all, ended_step, fewer_found, fewer_left, one_less}
use Rattle.rsl_links.proofs.links.Links.stop.Goals as goal

pub end_at-requires-clause-within : goal.end_at-requires-clause-within
end_at-requires-clause-within c = fewer_found c.args.servers.now (is_link_of (record { nas = c.args.nas.now; id = c.args.id.now })) c.loop-at.self.list.items c.in-Some.at c.in-Some.ensures.found

pub loop-at-smaller : goal.loop-at-smaller
loop-at-smaller c =
    fewer_left c.loop-at.self.list.items c.end_at.new.self.list.items c.in-Some.at
    (fewer_found c.args.servers.now (is_link_of (record { nas = c.args.nas.now; id = c.args.id.now })) c.loop-at.self.list.items c.in-Some.at c.in-Some.ensures.found) c.end_at.ensures.links

pub loop-at-preserved : goal.loop-at-preserved
loop-at-preserved c =
    let gone = c.end_at.ensures in
    one_less c.loop-at.invariant
    (ended_step c.args.servers.now (is_link_of (record { nas = c.args.nas.now; id = c.args.id.now })) c.loop-at.self.list.items c.end_at.new.self.list.items c.in-Some.at
    (fewer_found c.args.servers.now (is_link_of (record { nas = c.args.nas.now; id = c.args.id.now })) c.loop-at.self.list.items c.in-Some.at c.in-Some.ensures.found)
    c.in-Some.ensures.found.passed gone.links)
    gone.counted gone.fewer gone.ports gone.room

pub returns-clause-links : goal.returns-clause-links
returns-clause-links c =
    let so_far = c.loop-at.invariant in
    sym (ended_all (is_link_of (record { nas = c.args.nas.now; id = c.args.id.now })) (links_seen c.args.servers.now c.loop-at.self.list.items) c.in_default.ensures.missed) ∙ so_far.left
