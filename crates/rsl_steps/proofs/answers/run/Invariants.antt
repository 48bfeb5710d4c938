use Rattle.std.proofs.Common.{◌≡◌, ◌≤◌, [], length, take, vec_len}
use Rattle.std.specs.Vec.{vec_capacity}
use Rattle.rsl_steps.proofs.Snoc.{IsRun}
use Rattle.rsl_steps.proofs.answers.run.Given as goal

abbrev pub invariant-loop-step : goal.invariant-loop-step
invariant-loop-step l = record {
  room : length l.steps ≤ vec_capacity l.answers;
  len : vec_len l.answers ≡ l.step-index;
  so_far : IsRun l.config l.boot [] (take l.step-index l.steps) l.answers.items l.shards.items;
}
