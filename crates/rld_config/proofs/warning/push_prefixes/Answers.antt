use Rattle.rld_config.specs.Warning.{unsigned_prefix}
use Rattle.rld_config.proofs.Told.{found_more}
use Rattle.rld_config.proofs.warning.push_prefixes.Goals as goal

pub loop-network-preserved : goal.loop-network-preserved
loop-network-preserved c =
    found_more (unsigned_prefix c.args.config.now) c.args.found.now.items c.args.networks.now c.loop-network.network-index _
    _ _ c.loop-network-test.true c.loop-network.invariant c.in_ok-push_prefix.ensures
