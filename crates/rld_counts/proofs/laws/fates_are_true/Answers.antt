use Rattle.rld_counts.proofs.Telling.{causes_are_told}
use Rattle.rld_counts.proofs.Truths.{have_fates}
use Rattle.rld_counts.proofs.laws.fates_are_true.Goals as goal

pub returns-clause-truth : goal.returns-clause-truth
returns-clause-truth c = have_fates c.causes_are_of_rejects.ensures

pub returns-clause-told : goal.returns-clause-told
returns-clause-told c = causes_are_told
