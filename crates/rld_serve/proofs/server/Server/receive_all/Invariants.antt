use Rattle.std.proofs.Common.{◌≡◌}
use Rattle.rld_serve.proofs.server.Server.receive_all.Given as goal

-- the receiver is that of the port
abbrev pub invariant-loop : goal.invariant-loop
invariant-loop g l = l.place.receiver.port ≡ l.port
