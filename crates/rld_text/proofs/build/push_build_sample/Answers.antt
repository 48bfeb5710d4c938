use Rattle.rld_text.specs.Metrics.{build_sample}
use Rattle.rld_values.proofs.Callers.{written_5}
use Rattle.rld_text.proofs.build.push_build_sample.Goals as goal

pub returns : goal.returns
unfolding build_sample
returns c =
    written_5 _ _ _ _ _ _ _ _ _ _ _
    c.in_ok-push_text.ensures c.in_ok-push_label.ensures c.in_ok-push_text-2.ensures c.in_ok-push_proof_word.ensures c.in_ok-push_text-3.ensures
