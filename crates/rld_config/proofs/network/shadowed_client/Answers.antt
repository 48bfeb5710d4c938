use Rattle.std.proofs.Common.{ap, sym, ◌∙◌}
use Rattle.std.specs.Prelude.{option_map}
use Rattle.rld_config.specs.Server.{shadowed_client}
use Rattle.rld_config.specs.declared.fault.ServerFault.TheVariants.{ShadowedClient}
use Rattle.rld_config.proofs.Shadowed.{found_at, passed_at}
use Rattle.rld_config.proofs.network.shadowed_client.Goals as goal

pub returns-then-is_shadowed : goal.returns-then-is_shadowed
unfolding shadowed_client
returns-then-is_shadowed c =
    sym (ap (option_map ShadowedClient) (c.loop-number.invariant
    ∙ found_at c.args.networks.now c.args.config.now.clients c.loop-number.number c.client_at.result.now c.client_at.ensures.client c.from-address.result c.from-address.ensures
    c.is_shadowed.result c.is_shadowed.ensures c.if-is_shadowed.true))

pub loop-number-preserved : goal.loop-number-preserved
loop-number-preserved c =
    c.loop-number.invariant
    ∙ passed_at c.args.networks.now c.args.config.now.clients c.loop-number.number c.client_at.result.now c.client_at.ensures.client c.from-address.result c.from-address.ensures
    c.is_shadowed.result c.is_shadowed.ensures c.if-is_shadowed.false
