use Rattle.rld_spelling.proofs.TableLaws.{tables_fit}
use Rattle.rld_spelling.proofs.laws.tables_of_configurations_fit.Goals as goal

pub returns : goal.returns
returns c = tables_fit
