use Rattle.rld_values.proofs.Fronts.{cut_off, marked, undigited, unmarked}
use Rattle.rld_values.proofs.reading.escaped_front.Goals as goal

pub returns-in_default : goal.returns-in_default
returns-in_default c = cut_off c.args.behind.now c.in_default.len_below

pub returns-then-mark-ne120 : goal.returns-then-mark-ne120
returns-then-mark-ne120 c = unmarked c.args.behind.now c.in-len3-up.len_at_least c.if-mark-ne120.true

pub returns-in-Some : goal.returns-in-Some
returns-in-Some c = marked c.args.behind.now _ c.in-len3-up.len_at_least c.if-mark-ne120.false c.in-Some.ensures

pub returns-in-None : goal.returns-in-None
returns-in-None c = undigited c.args.behind.now c.in-len3-up.len_at_least c.if-mark-ne120.false c.in-None.ensures
