use Rattle.std.proofs.Common.{◌≡◌, length}
use Rattle.rld_ask.specs.Reply.{with_members}
use Rattle.rld_ask.proofs.reply.push_members.Given as goal

-- what is written, and what is left to write
abbrev pub invariant-loop-rest : goal.invariant-loop-rest
invariant-loop-rest l = with_members l.told l.out.items l.rest ≡ with_members l.told l.fn.out.items l.told

abbrev pub decreases-loop-rest : goal.decreases-loop-rest
decreases-loop-rest l = length l.rest
