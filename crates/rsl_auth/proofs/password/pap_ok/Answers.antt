-- The test of the definition means what the clause says.
use Rattle.std.proofs.Common.{◌≡◌, arith}
use Rattle.std.proofs.lemmas.Bool.Decides.{Decides-at}
use Rattle.std.proofs.lemmas.Grind.{common_steps}
use Rattle.rsl_auth.specs.Password.{matches_password}
use Rattle.rsl_auth.proofs.PasswordLemmas.{matches_password-Decides}
use Rattle.rsl_auth.proofs.password.pap_ok.Goals as goal

tests : (c : goal.After-is_followed_by_nuls)
    → c.is_followed_by_nuls.result ≡ matches_password c.args.value.now c.args.secret.now c.args.request_auth.now c.args.password.now
unfolding matches_password
tests c = grind (arith, common_steps)

pub returns-clause-matches : goal.returns-clause-matches
returns-clause-matches c = Decides-at _ _ (tests c) (matches_password-Decides _ _ _ _)
