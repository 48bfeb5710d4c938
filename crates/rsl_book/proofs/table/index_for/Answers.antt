use Rattle.std.proofs.Common.{◌<◌, length, ◌∙◌, ap, sym, subst, arith}
use Rattle.rsl_links.specs.Seen.{links_seen}
use Rattle.rsl_book.specs.Seen.{asks_seen, stops_seen}
use Rattle.rsl_book.proofs.Naming.{links_put, asks_put, stops_put, not_named}
use Rattle.rsl_links.specs.Named.{AreIndexed, IsIndex}
use Rattle.rsl_links.proofs.Callers.{new_index, indexed_put}
use Rattle.rsl_book.proofs.table.index_for.Goals as goal

pub returns-in-None-clause-links : goal.returns-in-None-clause-links
returns-in-None-clause-links c =
    ap (λ servers. links_seen servers c.args.links.now.items) c.put.ensures
    ∙ links_put c.args.servers.now c.args.nas c.free_index-index.result c.args.links.now.items (not_named c.args.links.now.items c.args.asks.now.items c.args.stops.now.items c.free_index-index.result c.free_index-index.ensures.free).0

pub returns-in-None-clause-asks : goal.returns-in-None-clause-asks
returns-in-None-clause-asks c =
    ap (λ servers. asks_seen servers c.args.asks.now.items) c.put.ensures
    ∙ asks_put c.args.servers.now c.args.nas c.free_index-index.result c.args.asks.now.items (not_named c.args.links.now.items c.args.asks.now.items c.args.stops.now.items c.free_index-index.result c.free_index-index.ensures.free).1.0

pub returns-in-None-clause-stops : goal.returns-in-None-clause-stops
returns-in-None-clause-stops c =
    ap (λ servers. stops_seen servers c.args.stops.now.items) c.put.ensures
    ∙ stops_put c.args.servers.now c.args.nas c.free_index-index.result c.args.stops.now.items (not_named c.args.links.now.items c.args.asks.now.items c.args.stops.now.items c.free_index-index.result c.free_index-index.ensures.free).1.1

pub returns-in-None-clause-index : goal.returns-in-None-clause-index
returns-in-None-clause-index c =
    let low = c.free_index-index.ensures.within in
    let long = c.len.ensures in
    let within : c.free_index-index.result < length c.args.servers.now = omega (arith, low, long) in
    subst (λ servers. IsIndex servers c.free_index-index.result) (sym c.put.ensures)
    (new_index c.args.servers.now c.args.nas c.free_index-index.result within c.in-None.ensures.missed)

pub returns-in-None-clause-placed : goal.returns-in-None-clause-placed
returns-in-None-clause-placed c =
    let low = c.free_index-index.ensures.within in
    let long = c.len.ensures in
    let within : c.free_index-index.result < length c.args.servers.now = omega (arith, low, long) in
    λ placed. subst (λ servers. AreIndexed servers c.args.links.now.items) (sym c.put.ensures)
    (indexed_put c.args.servers.now c.args.nas c.free_index-index.result c.args.links.now.items within c.in-None.ensures.missed
    (not_named c.args.links.now.items c.args.asks.now.items c.args.stops.now.items c.free_index-index.result c.free_index-index.ensures.free).0 placed)
