use Rattle.std.proofs.Common.{◌≡◌}
use Rattle.rld_ask.specs.declared.ask_connection.Phase.TheVariants.{Waits}
use Rattle.rld_ask.proofs.ask_connection.AskConnection.take_turn.Given as goal

-- a connection that did not wait does not wait yet
abbrev pub invariant-loop : goal.invariant-loop
invariant-loop l = (l.initial.self.phase ≡ Waits → ⊥) → l.self.phase ≡ Waits → ⊥
