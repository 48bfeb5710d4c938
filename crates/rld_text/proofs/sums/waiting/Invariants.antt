use Rattle.std.proofs.Common.{◌≡◌, drop}
use Rattle.rld_text.specs.Metrics.{waiting_after}
use Rattle.rld_text.proofs.sums.waiting.Given as goal

abbrev pub invariant-loop-socket : goal.invariant-loop-socket
invariant-loop-socket l = waiting_after 0 l.sockets ≡ waiting_after l.number (drop l.socket-index l.sockets)
