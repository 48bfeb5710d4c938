use Rattle.std.proofs.Common.{List, ℕ, cond, ap, ◌∙◌}
use Rattle.std.specs.Prelude.{count_by}
use Rattle.rsl_session.specs.declared.bundle.Bundle.{Bundle}
use Rattle.rsl_session.specs.Book.{bundles_in}
use Rattle.rsl_links.specs.LinkList.{is_member}
use Rattle.rsl_links.specs.Seen.{links_seen, server_at}
use Rattle.rsl_links.proofs.Opened.{more_alone, more_bundled}
use Rattle.rsl_links.proofs.Indexed.{members_seen}
use Rattle.rsl_links.proofs.links.Links.adds_a_place.Goals as goal

pub returns-in-None : goal.returns-in-None
returns-in-None c = rw c.in-None.is (more_alone c.args.self.now.ports (bundles_in (links_seen c.args.servers.now c.args.self.now.list.items)) c.requires.counted.a_port)

pub returns-in-Some : goal.returns-in-Some
returns-in-Some c =
    let named : Bundle = record { nas = server_at c.args.servers.now c.args.nas; id = c.in-Some.id } in
    rw c.in-Some.is
    (more_bundled c.args.self.now.ports c.members.result (cond c.takes_a_place.result 1 0) named
    (bundles_in (links_seen c.args.servers.now c.args.self.now.list.items)) c.requires.counted.a_port
    (c.members.ensures ∙ ap (λ (octets : List ℕ). count_by (is_member c.args.nas octets) c.args.self.now.list.items) c.as_slice.ensures
    ∙ members_seen c.args.servers.now c.in-Some.id c.args.nas c.args.self.now.list.items c.requires.index c.requires.counted.indexed)
    c.takes_a_place.ensures)
