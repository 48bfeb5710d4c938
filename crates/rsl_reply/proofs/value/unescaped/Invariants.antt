use Rattle.std.proofs.Common.{◌≡◌, [], false, length}
use Rattle.rsl_reply.specs.Value.{unescaped}
use Rattle.rsl_reply.proofs.value.unescaped.Given as goal

abbrev pub invariant-loop-text : goal.invariant-loop-text
invariant-loop-text l = unescaped l.escaping l.out.items l.text ≡ unescaped false [] l.initial.text

abbrev pub decreases-loop-text : goal.decreases-loop-text
decreases-loop-text l = length l.text
