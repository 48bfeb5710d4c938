use Rattle.std.proofs.Common.{◌≡◌, drop}
use Rattle.rld_text.specs.Metrics.{dropped_after}
use Rattle.rld_text.proofs.sums.dropped.Given as goal

abbrev pub invariant-loop-socket : goal.invariant-loop-socket
invariant-loop-socket l = dropped_after 0 l.sockets ≡ dropped_after l.number (drop l.socket-index l.sockets)
