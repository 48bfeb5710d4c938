-- The plans of lives, and their results.
use Rattle.std.specs.Prelude.{List, map, Option}
use Rattle.std.specs.Global.{Vec}
use Rattle.std.specs.Option.{option_map}
use Rattle.rsl_shard.specs.declared.moved.Move.{Move}
use Rattle.rld_lives.specs.Leaving.{batches_of}
use Rattle.rld_lives.specs.Life.{Outcome}
use Rattle.rld_lives.specs.declared.living.Plan.{Plan}

-- the batches of each life
abbrev pub plans_of : List Plan → List (List (List Move))
plans_of plans = map (λ (plan : Plan). batches_of plan.steps.items) plans

-- the results of each life
abbrev pub told_of : List (Option (Vec Outcome)) → List (Option (List Outcome))
told_of told =
    map (option_map (λ (outcomes : Vec Outcome). outcomes.items)) told
