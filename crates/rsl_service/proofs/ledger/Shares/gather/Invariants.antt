use Rattle.std.proofs.Common.{◌≡◌, ◌+◌, length}
use Rattle.rsl_service.specs.Closed.{count_in}
use Rattle.rsl_service.specs.Receipts.{receipts_of}
use Rattle.rsl_service.proofs.ledger.Shares.gather.Given as goal

-- what was gathered and what is left is all
abbrev pub invariant-loop-pass : goal.invariant-loop-pass
invariant-loop-pass g l =
    record {
      parts : l.self.parts + length l.passes.items ≡ l.initial.self.parts + length l.initial.passes.items;
      amount0 : l.self.amount0 + count_in (receipts_of l.passes.items) 0 ≡ l.initial.self.amount0 + count_in (receipts_of l.initial.passes.items) 0;
      amount1 : l.self.amount1 + count_in (receipts_of l.passes.items) 1 ≡ l.initial.self.amount1 + count_in (receipts_of l.initial.passes.items) 1;
      amount2 : l.self.amount2 + count_in (receipts_of l.passes.items) 2 ≡ l.initial.self.amount2 + count_in (receipts_of l.initial.passes.items) 2;
      amount3 : l.self.amount3 + count_in (receipts_of l.passes.items) 3 ≡ l.initial.self.amount3 + count_in (receipts_of l.initial.passes.items) 3;
    }

abbrev pub decreases-loop-pass : goal.decreases-loop-pass
decreases-loop-pass g l = goal.left-loop-pass g l
