use Rattle.rld_text.specs.Text.{head_of}
use Rattle.rld_values.proofs.Callers.{written_9}
use Rattle.rld_text.proofs.text.push_head.Goals as goal

pub returns : goal.returns
unfolding head_of
returns c =
    written_9 _ _ _ _ _ _ _ _ _ _ _ _ _ _ _ _ _ _ _
    c.in_ok-push_text.ensures c.in_ok-push_text-2.ensures c.in_ok-push_text-3.ensures c.in_ok-push_text-4.ensures c.in_ok-push_text-5.ensures c.in_ok-push_text-6.ensures c.in_ok-push_text-7.ensures c.in_ok-push_text-8.ensures c.in_ok-push_text-9.ensures
