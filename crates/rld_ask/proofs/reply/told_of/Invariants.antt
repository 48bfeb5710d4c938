use Rattle.std.proofs.Common.{◌≡◌, ◌++◌}
use Rattle.rld_ask.specs.Reply.{told_of}
use Rattle.rld_ask.proofs.reply.told_of.Given as goal

-- what is told, and what is left to tell
abbrev pub invariant-loop-kind : goal.invariant-loop-kind
invariant-loop-kind l = l.told.items ++ told_of l.names l.kind-iterator ≡ told_of l.names l.attributes
