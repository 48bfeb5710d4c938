use Rattle.std.proofs.Common.{ap, ◌∙◌}
use Rattle.rld_start.specs.Numbers.{greatest_of, number_of}
use Rattle.rld_start.proofs.Greatest.{one_more}
use Rattle.rld_start.proofs.number.next_generation.Goals as goal

pub loop-file-preserved : goal.loop-file-preserved
loop-file-preserved c =
    one_more number_of c.args.files.now c.loop-file.file-index _ c.loop-file.most _ c.loop-file-test.true c.loop-file.invariant
    (c.greater-most.ensures ∙ ap (greatest_of c.loop-file.most) c.number_of.ensures)
