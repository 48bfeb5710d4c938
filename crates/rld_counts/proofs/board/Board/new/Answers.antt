use Rattle.std.proofs.Common.{arith}
use Rattle.std.proofs.lemmas.Grind.{common_steps}
use Rattle.rld_counts.proofs.Places.{next_number}
use Rattle.rld_counts.proofs.board.Board.new.Goals as goal

pub loop-gate-preserved : goal.loop-gate-preserved
loop-gate-preserved c = record {
  gates = grind (arith, common_steps);
  numbers =
      next_number _ _ _ c.loop-gate.gate-index c.in_ok-push.ensures.items
      (grind (arith, common_steps)) c.loop-gate.invariant.numbers;
  len = grind (arith, common_steps);
}
