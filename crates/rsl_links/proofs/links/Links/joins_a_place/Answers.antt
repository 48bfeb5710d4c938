use Rattle.std.proofs.Common.{ℕ, List, ap, sym, subst}
use Rattle.std.specs.Prelude.{Option, is_none}
use Rattle.rsl_links.specs.declared.link.Link.{Link}
use Rattle.rsl_links.specs.Named.{IsIndex}
use Rattle.rsl_links.proofs.OfLinks.{link_here}
use Rattle.rsl_links.proofs.Touching.{joins_bundled, joins_alone}
use Rattle.rsl_links.proofs.links.Links.joins_a_place.Goals as goal

pub adds_a_place-requires-clause-index : goal.adds_a_place-requires-clause-index
adds_a_place-requires-clause-index c =
    let here = link_here c.args.self.now.list.items c.args.at c.index-link.result.now c.requires.within c.index-link.ensures in
    subst (λ (one : Link). IsIndex c.args.servers.now one.nas) (sym here) (c.requires.counted.indexed c.args.at c.requires.within)

pub returns-in-None : goal.returns-in-None
returns-in-None c =
    λ (now : ℕ) (station : Option (List ℕ)). joins_alone c.args.servers.now c.args.self.now.ports now c.args.bundle.now station c.args.self.now.list.items c.args.at c.index-link.result.now c.adds_a_place.result
    c.requires.counted.a_port c.requires.within c.index-link.ensures (ap is_none c.in-None.is) c.adds_a_place.ensures

pub returns-in-Some : goal.returns-in-Some
returns-in-Some c =
    λ (now : ℕ) (station : Option (List ℕ)). joins_bundled c.args.servers.now c.args.self.now.ports now c.args.bundle.now station c.args.self.now.list.items c.args.at c.index-link.result.now
    c.requires.within c.index-link.ensures (ap is_none c.in-Some.is)
