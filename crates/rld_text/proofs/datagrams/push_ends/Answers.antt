use Rattle.rld_text.specs.Metrics.{ends_lines}
use Rattle.rld_values.proofs.Callers.{written_3}
use Rattle.rld_text.proofs.datagrams.push_ends.Goals as goal

pub returns : goal.returns
unfolding ends_lines
returns c =
    written_3 _ _ _ _ _ _ _
    c.in_ok-push_lines.ensures c.in_ok-push_lines-2.ensures c.in_ok-push_lines-3.ensures
