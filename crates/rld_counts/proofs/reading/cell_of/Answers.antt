use Rattle.std.proofs.Common.{◌≡◌, List, arith, subst, take, take_all}
use Rattle.rld_counts.specs.Cell.{HasCounted}
use Rattle.rld_counts.specs.Reading.{all_of}
use Rattle.rld_counts.specs.declared.reading.Reading.{Reading}
use Rattle.rld_counts.proofs.reading.cell_of.Goals as goal

pub returns-clause-counted : goal.returns-clause-counted
returns-clause-counted c had have =
    let whole : take c.loop-reading.reading-index c.args.readings.now ≡ c.args.readings.now = take_all _ _ (omega arith) in
    subst (λ (readings : List Reading). HasCounted (all_of c.args.gate c.args.clients had readings) c.loop-reading.all) whole
    (c.loop-reading.invariant.counted had have)
