use Rattle.rsl_steps.proofs.Sharding.{shards_alike}
use Rattle.rsl_steps.proofs.laws.the_number_of_shards_does_not_matter.Goals as goal

pub returns : goal.returns
returns c = shards_alike
