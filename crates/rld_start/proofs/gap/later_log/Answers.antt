use Rattle.std.proofs.Common.{All, List, subst}
use Rattle.std.proofs.lemmas.List.{take_all}
use Rattle.std.proofs.lemmas.List.Elements.{All-more}
use Rattle.rld_folder.specs.declared.name.FileName.{FileName}
use Rattle.rld_start.specs.Gaps.{IsEarlier}
use Rattle.rld_start.proofs.gap.later_log.Goals as goal

pub loop-file-preserved : goal.loop-file-preserved
loop-file-preserved c =
    All-more (IsEarlier c.args.begun) c.args.archived.now c.loop-file.file-index _ c.loop-file-test.true c.loop-file.invariant
    (c.is_earlier.ensures.0 c.if-not-is_earlier.false)

pub returns-clause-none : goal.returns-clause-none
returns-clause-none c =
    subst (λ (l : List FileName). All (IsEarlier c.args.begun) l) (take_all c.loop-file.file-index c.args.archived.now c.loop-file-test.false) c.loop-file.invariant
