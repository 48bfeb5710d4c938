-- The test of the definition means what the clause says.
use Rattle.std.proofs.Common.{◌≡◌, arith}
use Rattle.std.proofs.lemmas.Bool.Decides.{Decides-at}
use Rattle.std.proofs.lemmas.Grind.{common_steps}
use Rattle.rsl_auth.specs.Chap.{chap_response, matches_chap}
use Rattle.rsl_auth.proofs.ChapLemmas.{matches_chap-Decides}
use Rattle.rsl_auth.proofs.chap.chap_ok.Goals as goal

tests : (c : goal.After-same_octets) → c.same_octets.result ≡ matches_chap c.args.value.now c.args.challenge.now c.args.password.now
unfolding matches_chap chap_response
tests c = grind (arith, common_steps)

pub returns-clause-answers : goal.returns-clause-answers
returns-clause-answers c = Decides-at _ _ (tests c) (matches_chap-Decides _ _ _)
