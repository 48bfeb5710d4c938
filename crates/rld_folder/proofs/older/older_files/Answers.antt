use Rattle.std.proofs.Common.{arith}
use Rattle.std.proofs.lemmas.Grind.{common_steps}
use Rattle.std.proofs.lemmas.List.Elements.{filter-append}
use Rattle.rld_folder.proofs.older.older_files.Goals as goal

pub loop-file-preserved : goal.loop-file-preserved
loop-file-preserved c = (grind (arith, common_steps, filter-append), grind (arith, common_steps))
