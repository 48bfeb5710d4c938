use Rattle.std.proofs.Common.{ap, ◌∙◌, sym, get_or, arith}
use Rattle.rld_folder.proofs.name.FileName.guess.Goals as goal
use Rattle.rld_folder.specs.declared.name.FileName.TheVariants.{Lock, FormerTable, Log}

pub returns-in-Some : goal.returns-in-Some
returns-in-Some c Lock = λ fits e. absurd (omega (arith, ap (λ l. get_or l 0 0) (sym e ∙ c.in-Some.ensures.begins.1)))
returns-in-Some c (FormerTable era) = λ fits e. let same = c.in-Some.ensures.only era fits e in grind (arith, same)
returns-in-Some c (Log generation) = λ fits e. absurd (omega (arith, ap (λ l. get_or l 0 0) (sym e ∙ c.in-Some.ensures.begins.1)))
