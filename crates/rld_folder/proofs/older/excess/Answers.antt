use Rattle.std.proofs.Common.{arith, drop}
use Rattle.std.proofs.lemmas.Grind.{common_steps}
use Rattle.rld_folder.proofs.Sizes.{excess_within}
use Rattle.rld_folder.proofs.older.excess.Goals as goal

pub returns-then-left-limit : goal.returns-then-left-limit
returns-then-left-limit c = λ few.
    let known = c.loop-log.invariant few in
    let within = excess_within c.args.limit (drop c.loop-log.log-index c.args.logs.now) in
    grind (arith, common_steps, known, within, c.if-left-limit.true)
