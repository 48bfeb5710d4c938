use Rattle.std.proofs.Common.{◌++◌, sym, ap, ◌∙◌}
use Rattle.rld_config.specs.Warning.{unsigned_address}
use Rattle.rld_config.proofs.Told.{told_more}
use Rattle.rld_config.proofs.warning.unsigned_addresses.Goals as goal

pub loop-number-preserved : goal.loop-number-preserved
loop-number-preserved c =
    c.in_ok-push_unsigned.ensures
    ∙ ap (λ found. found ++ unsigned_address c.client_at.result.now) c.loop-number.invariant
    ∙ sym (told_more unsigned_address c.args.config.now.clients c.loop-number.number c.client_at.result.now c.client_at.ensures.client)
