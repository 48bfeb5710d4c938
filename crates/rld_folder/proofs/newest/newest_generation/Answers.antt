use Rattle.std.proofs.Common.{sym, subst, take}
use Rattle.std.proofs.lemmas.List.{take_more}
use Rattle.rld_folder.specs.Newest.{IsNewest}
use Rattle.rld_folder.proofs.newest.newest_generation.Goals as goal

pub loop-file-preserved : goal.loop-file-preserved
loop-file-preserved c =
    subst (λ files. IsNewest c.args.limit files c.newer-best.result)
    (sym (take_more c.args.files.now c.loop-file.file-index _ c.loop-file-test.true))
    (c.newer-best.ensures (take c.loop-file.file-index c.args.files.now) c.loop-file.invariant)
