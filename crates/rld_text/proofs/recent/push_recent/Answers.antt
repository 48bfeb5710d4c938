use Rattle.rld_text.specs.Recent.{recent_lines}
use Rattle.rld_values.proofs.Callers.{written_7}
use Rattle.rld_text.proofs.recent.push_recent.Goals as goal

pub returns : goal.returns
unfolding recent_lines
returns c =
    written_7 _ _ _ _ _ _ _ _ _ _ _ _ _ _ _
    c.in_ok-push_latest.ensures c.in_ok-push_gate.ensures c.in_ok-push_gate-2.ensures c.in_ok-push_asks_if_any.ensures c.in_ok-push_full.ensures c.in_ok-push_waiting.ensures c.in_ok-push_archive.ensures
