use Rattle.std.proofs.Common.{[], ◌∷◌, ◌++◌}
use Rattle.rld_log.proofs.Readings.{pass_one}
use Rattle.rld_log.proofs.reading.whole_len.Goals as goal

pub loop-after-preserved : goal.loop-after-preserved
loop-after-preserved c =
    let before = c.loop-after.invariant in (
      before.0 ++ c.in-Some.field-0-0.now ∷ [],
      pass_one c.args.octets.now c.loop-after.rest.now c.in-Some.after.now c.in-Some.field-0-0.now before.0 before.1 c.in-Some.ensures.fits c.in-Some.ensures.some,
    )
