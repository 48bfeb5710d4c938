use Rattle.rld_look.specs.Line.{left_out_lines}
use Rattle.rld_values.proofs.Callers.{written_3}
use Rattle.rld_look.proofs.line.write_left_out.Goals as goal

pub returns : goal.returns
unfolding left_out_lines
returns c =
    written_3 _ _ _ _ _ _ _
    c.in_ok-push_left_out_at.ensures c.in_ok-push_left_out_at-2.ensures c.in_ok-push_left_out_at-3.ensures
