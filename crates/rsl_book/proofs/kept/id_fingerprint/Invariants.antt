use Rattle.std.proofs.Common.{◌≡◌, drop}
use Rattle.rsl_book.specs.Fingerprint.{octets_after}
use Rattle.rsl_book.proofs.kept.id_fingerprint.Given as goal

abbrev pub invariant-loop-octet : goal.invariant-loop-octet
invariant-loop-octet l = octets_after l.print (drop l.octet-index l.octets) ≡ octets_after 0 l.octets
