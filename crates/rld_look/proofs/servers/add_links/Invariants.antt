use Rattle.std.proofs.Common.{◌≡◌, ◌++◌, drop}
use Rattle.rld_look.specs.AccessServers.{servers_of}
use Rattle.rld_look.proofs.servers.add_links.Given as goal

abbrev pub invariant-loop-link : goal.invariant-loop-link
invariant-loop-link l =
    l.fn.servers.items ++ servers_of l.config l.links ≡ l.servers.items ++ servers_of l.config (drop l.link-index l.links)
