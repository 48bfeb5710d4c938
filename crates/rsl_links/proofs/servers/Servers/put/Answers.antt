use Rattle.rsl_links.proofs.Fingerprints.{fingerprints_put}
use Rattle.rsl_links.proofs.servers.Servers.put.Goals as goal

pub invariant_of-self : goal.invariant_of-self
invariant_of-self c =
    (c.self.invariant.0, fingerprints_put c.self.inside.table.items c.self.inside.fingerprints.items c.args.nas c.args.at c.fingerprint_of.result c.self.invariant.1 c.fingerprint_of.ensures)
