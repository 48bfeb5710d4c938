-- The test of the definition means what the clause says.
use Rattle.rsl_auth.proofs.SignatureLemmas.{right_by_test}
use Rattle.rsl_auth.proofs.signature.signature_ok.Goals as goal

pub returns-clause-right : goal.returns-clause-right
returns-clause-right c = right_by_test _ _ _ _ (c.is_right.ensures c.args.secret.now c.new.ensures)
