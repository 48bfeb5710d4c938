use Rattle.std.proofs.Common.{◌≡◌, ◌++◌, drop}
use Rattle.std.specs.Prelude.{map}
use Rattle.rld_counts.specs.Fates.{gate_of}
use Rattle.rld_serve.proofs.server.gates_of.Given as goal

abbrev pub invariant-loop-port : goal.invariant-loop-port
invariant-loop-port l = map gate_of l.ports ≡ l.gates.items ++ map gate_of (drop l.port-index l.ports)
