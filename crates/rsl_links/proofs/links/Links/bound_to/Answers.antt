use Rattle.std.proofs.Common.{◌≡◌, ℕ, List, false, subst}
use Rattle.std.specs.List.{list_any}
use Rattle.std.proofs.lemmas.Option.{IfSome_then}
use Rattle.rsl_links.specs.First.{IsFirst}
use Rattle.rsl_links.specs.LinkList.{is_held}
use Rattle.rsl_links.proofs.Indexed.{no_session_seen, none_then, session_nowhere, session_seen}
use Rattle.rsl_links.proofs.links.Links.bound_to.Goals as goal

pub returns-in-None-clause-missed : goal.returns-in-None-clause-missed
returns-in-None-clause-missed c = session_nowhere c.args.servers.now c.args.nas.now c.args.self.now.list.items c.requires.indexed c.args.id.now c.in-None.ensures.missed

pub returns-in-Some-clause-found : goal.returns-in-Some-clause-found
returns-in-Some-clause-found c =
    IfSome_then c.session.result c.session.ensures.found
    (λ at first. session_seen c.args.servers.now c.args.nas.now c.args.self.now.list.items c.requires.indexed c.in-Some.index c.in-Some.ensures.index c.in-Some.ensures.found c.args.id.now at
    (subst (λ (octets : List ℕ). IsFirst (is_held c.in-Some.index octets) c.args.self.now.list.items at) c.as_slice.ensures first))

pub returns-in-Some-clause-missed : goal.returns-in-Some-clause-missed
returns-in-Some-clause-missed c =
    none_then c.session.result c.session.ensures.missed
    (λ none. no_session_seen c.args.servers.now c.args.nas.now c.args.self.now.list.items c.requires.indexed c.in-Some.index c.in-Some.ensures.index c.in-Some.ensures.found c.args.id.now
    (subst (λ (octets : List ℕ). list_any (is_held c.in-Some.index octets) c.args.self.now.list.items ≡ false) c.as_slice.ensures none))
