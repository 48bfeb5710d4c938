-- One step more at the end of a run.
use Rattle.std.proofs.Common.{ℕ, ◌+◌, ◌≤◌, List, [], ◌∷◌, ◌++◌, length, arith}
use Rattle.rsl_accounts.specs.Configuration.{Configuration}
use Rattle.rsl_shard.specs.Seen.{ShardSeen}
use Rattle.rsl_steps.specs.Books.{AreAnswersByBooks}
use Rattle.rsl_steps.specs.Ran.{AreShards}
use Rattle.rsl_steps.specs.Run.{steps_taken}
use Rattle.rsl_steps.specs.Taking.{Takes}
use Rattle.rsl_steps.specs.declared.step.Answer.{Answer}
use Rattle.rsl_steps.specs.declared.step.Answer.TheVariants as answers
use Rattle.rsl_steps.specs.declared.step.Step.{Step}

pub record IsRun (config : Configuration) (boot : ℕ) (before : List Step) (steps : List Step) (given : List Answer) (all : List ShardSeen) : Type 0 where
  pub answers : AreAnswersByBooks config boot before steps given
  pub shards : AreShards config boot (steps_taken before steps given) all

pub run_start : (config : Configuration) (boot : ℕ) (all : List ShardSeen) → AreShards config boot [] all → IsRun config boot [] [] [] all
unfolding AreAnswersByBooks steps_taken
run_start config boot all are = record { answers = tt; shards = are }

pub run_more : (config : Configuration) (boot : ℕ) (before steps : List Step) (given : List Answer) (step : Step) (answer : Answer) (old new : List ShardSeen)
    → IsRun config boot before steps given old → Takes config boot (steps_taken before steps given) step answer old new → IsRun config boot before (steps ++ step ∷ []) (given ++ answer ∷ []) new
unfolding AreAnswersByBooks steps_taken
run_more config boot before [] [] step (answers.Reply word octets) old new run takes = record { answers = (takes.answered, tt); shards = takes.moved }
run_more config boot before [] [] step (answers.Dropped dropped) old new run takes = record { answers = (takes.answered, tt); shards = takes.moved }
run_more config boot before [] [] step answers.Quiet old new run takes = record { answers = (takes.answered, tt); shards = takes.moved }
run_more config boot before [] [] step answers.Refused old new run takes = record { answers = tt; shards = rw takes run.shards }
run_more config boot before [] (a ∷ given) step answer old new run takes = absurd run.answers
run_more config boot before (s ∷ steps) [] step answer old new run takes = absurd run.answers
run_more config boot before (s ∷ steps) (answers.Reply word octets ∷ given) step answer old new run takes =
    let more = run_more config boot (s ∷ before) steps given step answer old new (record { answers = run.answers.1; shards = run.shards }) takes in
    record { answers = (run.answers.0, more.answers); shards = more.shards }
run_more config boot before (s ∷ steps) (answers.Dropped dropped ∷ given) step answer old new run takes =
    let more = run_more config boot (s ∷ before) steps given step answer old new (record { answers = run.answers.1; shards = run.shards }) takes in
    record { answers = (run.answers.0, more.answers); shards = more.shards }
run_more config boot before (s ∷ steps) (answers.Quiet ∷ given) step answer old new run takes =
    let more = run_more config boot (s ∷ before) steps given step answer old new (record { answers = run.answers.1; shards = run.shards }) takes in
    record { answers = (run.answers.0, more.answers); shards = more.shards }
run_more config boot before (s ∷ steps) (answers.Refused ∷ given) step answer old new run takes =
    let more = run_more config boot before steps given step answer old new (record { answers = run.answers; shards = run.shards }) takes in
    record { answers = more.answers; shards = more.shards }

-- at most all steps are taken
pub taken-few : (before steps : List Step) (given : List Answer) → length (steps_taken before steps given) ≤ length before + length steps
unfolding steps_taken
taken-few before [] given = omega arith
taken-few before (step ∷ steps) [] = omega arith
taken-few before (step ∷ steps) (answers.Refused ∷ given) = let rest = taken-few before steps given in omega (arith, rest)
taken-few before (step ∷ steps) (answers.Reply word octets ∷ given) = let rest = taken-few (step ∷ before) steps given in omega (arith, rest)
taken-few before (step ∷ steps) (answers.Dropped dropped ∷ given) = let rest = taken-few (step ∷ before) steps given in omega (arith, rest)
taken-few before (step ∷ steps) (answers.Quiet ∷ given) = let rest = taken-few (step ∷ before) steps given in omega (arith, rest)
