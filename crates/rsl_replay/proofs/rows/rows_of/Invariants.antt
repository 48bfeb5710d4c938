use Rattle.std.proofs.Common.{ℕ, List}
use Rattle.rsl_replay.proofs.ReportLaws.{AreRows}
use Rattle.rsl_replay.specs.Shards.{AreShardsAfter}
use Rattle.rsl_steps.specs.declared.step.Step.{Step}
use Rattle.rsl_replay.proofs.rows.rows_of.Given as goal

-- the rows so far are those of the first accounts
abbrev pub invariant-loop-account : goal.invariant-loop-account
invariant-loop-account l =
    (boot : ℕ) (before : List Step) → AreShardsAfter l.config boot before l.fn.shards → AreRows l.config boot before l.account l.rows.items
