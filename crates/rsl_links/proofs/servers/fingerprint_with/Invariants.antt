use Rattle.std.proofs.Common.{◌≡◌, drop}
use Rattle.rsl_links.specs.Fingerprints.{fingerprint_with}
use Rattle.rsl_links.proofs.servers.fingerprint_with.Given as goal

abbrev pub invariant-loop-octet : goal.invariant-loop-octet
invariant-loop-octet l = fingerprint_with l.fingerprint (drop l.octet-index l.octets) ≡ fingerprint_with l.start l.octets
