use Rattle.std.proofs.Common.{◌≡◌, ◌++◌}
use Rattle.rld_ask.specs.Reply.{lines_of}
use Rattle.rld_ask.proofs.reply.push_lines.Given as goal

-- what is written, and what is left to write
abbrev pub invariant-loop-kind : goal.invariant-loop-kind
invariant-loop-kind l = l.out.items ++ lines_of l.names l.kind-iterator ≡ l.fn.out.items ++ lines_of l.names l.attributes
