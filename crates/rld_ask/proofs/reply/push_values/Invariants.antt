use Rattle.std.proofs.Common.{◌≡◌, fold, take}
use Rattle.rld_ask.specs.Reply.{with_value}
use Rattle.rld_ask.proofs.reply.push_values.Given as goal

-- the values that were looked at
abbrev pub invariant-loop-one : goal.invariant-loop-one
invariant-loop-one l = l.out.items ≡ fold (with_value l.name) l.fn.out.items (take l.one-index l.told)
