use Rattle.std.proofs.Common.{◌≡◌, ◌∙◌, sym, length, arith, rules}
use Rattle.rsl_book.proofs.Insides.{few_links, length-seen, length-asks, length-stops}
use Rattle.rsl_book.proofs.book.Book.stored.Goals as goal

pub returns-clause-links : goal.returns-clause-links
returns-clause-links c =
    let all : c.len.result ≡ length c.self.inside.links.list.items = search rules in
    rw (← c.self.view_is) (all ∙ sym (length-seen c.self.inside.servers c.self.inside.links.list.items))

pub returns-clause-kept : goal.returns-clause-kept
returns-clause-kept c = rw (← c.self.view_is) (c.len-2.ensures.len ∙ sym (length-asks c.self.inside.servers c.self.inside.asks.items))

pub returns-clause-closed : goal.returns-clause-closed
returns-clause-closed c = rw (← c.self.view_is) (c.len-3.ensures.len ∙ sym (length-stops c.self.inside.servers c.self.inside.stops.items))

pub returns-clause-few_links : goal.returns-clause-few_links
returns-clause-few_links c =
    let all : c.len.result ≡ length c.self.inside.links.list.items = search rules in
    let few = few_links c.self.inside.servers c.self.inside.links c.self.inside.rules.places c.self.inside.rules.ports c.self.invariant.counted c.self.invariant.limit c.self.invariant.ports in
    rw (← c.self.view_is) (omega arith)
