use Rattle.rld_page.specs.Chart.{pieces_text}
use Rattle.rld_values.proofs.Callers.{written_3}
use Rattle.rld_page.proofs.chart.write_pieces.Goals as goal

pub returns : goal.returns
unfolding pieces_text
returns c =
    written_3 _ _ _ _ _ _ _
    c.in_ok-write_piece_if_any.ensures c.in_ok-write_piece_if_any-2.ensures c.in_ok-write_piece_if_any-3.ensures
