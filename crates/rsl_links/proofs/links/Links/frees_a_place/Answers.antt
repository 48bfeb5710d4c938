use Rattle.std.proofs.Common.{◌+◌, cond, ap, sym, ◌∙◌, take, drop}
use Rattle.rsl_session.specs.Places.{places_of}
use Rattle.rsl_session.specs.declared.bundle.Bundle.{Bundle}
use Rattle.rsl_session.specs.Book.{bundles_in}
use Rattle.rsl_links.specs.declared.link.Link.{Link}
use Rattle.rsl_links.specs.Seen.{links_seen, link_seen, server_at}
use Rattle.rsl_links.proofs.Opened.{less_alone, less_bundled, bundles-append, bundles-split, bundle_none, bundle_some, members_some}
use Rattle.rsl_links.proofs.Indexed.{members_at}
use Rattle.rsl_links.proofs.links.Links.frees_a_place.Goals as goal

pub overflow_sub-members : goal.overflow_sub-members
overflow_sub-members c =
    let servers = c.args.servers.now in
    let links = c.args.self.now.list.items in
    let link : Link = c.index-link.result.now in
    let named : Bundle = record { nas = server_at servers link.nas; id = c.in-Some.id } in
    let counted = members_at servers links c.args.at c.members.result link c.in-Some.id c.as_slice.result.now c.requires.within c.index-link.ensures c.as_slice.ensures c.requires.counted.indexed c.members.ensures in
    members_some c.members.result (link_seen servers link).bundle named (bundles_in (links_seen servers (take c.args.at links)))
    (bundles_in (links_seen servers (drop (c.args.at + 1) links))) (bundles_in (links_seen servers links))
    (bundles-split servers links c.args.at link c.requires.within c.index-link.ensures)
    (bundle_some servers link c.in-Some.id c.in-Some.is) counted

pub returns-in-None : goal.returns-in-None
returns-in-None c =
    let servers = c.args.servers.now in
    let links = c.args.self.now.list.items in
    let link : Link = c.index-link.result.now in
    less_alone c.args.self.now.ports (link_seen servers link).bundle (bundles_in (links_seen servers (take c.args.at links)))
    (bundles_in (links_seen servers (drop (c.args.at + 1) links))) (bundles_in (links_seen servers links)) c.requires.counted.a_port
    (bundles-split servers links c.args.at link c.requires.within c.index-link.ensures)
    (bundle_none servers link c.in-None.is)
    ∙ ap (λ xs. places_of c.args.self.now.ports xs + 1) (sym (bundles-append servers (take c.args.at links) (drop (c.args.at + 1) links)))

pub returns-in-Some : goal.returns-in-Some
returns-in-Some c =
    let servers = c.args.servers.now in
    let links = c.args.self.now.list.items in
    let link : Link = c.index-link.result.now in
    let named : Bundle = record { nas = server_at servers link.nas; id = c.in-Some.id } in
    let counted = members_at servers links c.args.at c.members.result link c.in-Some.id c.as_slice.result.now c.requires.within c.index-link.ensures c.as_slice.ensures c.requires.counted.indexed c.members.ensures in
    less_bundled c.args.self.now.ports c.members.result (cond c.takes_a_place.result 1 0) (link_seen servers link).bundle named
    (bundles_in (links_seen servers (take c.args.at links))) (bundles_in (links_seen servers (drop (c.args.at + 1) links))) (bundles_in (links_seen servers links))
    c.requires.counted.a_port (bundles-split servers links c.args.at link c.requires.within c.index-link.ensures)
    (bundle_some servers link c.in-Some.id c.in-Some.is) counted c.takes_a_place.ensures
    ∙ ap (λ xs. places_of c.args.self.now.ports xs + cond c.takes_a_place.result 1 0) (sym (bundles-append servers (take c.args.at links) (drop (c.args.at + 1) links)))
