use Rattle.std.proofs.Common.{◌++◌, sym, ap, ◌∙◌}
use Rattle.rld_config.specs.Warning.{short_secret}
use Rattle.rld_config.proofs.Told.{told_more}
use Rattle.rld_config.proofs.warning.short_secrets.Goals as goal

pub loop-number-preserved : goal.loop-number-preserved
loop-number-preserved c =
    c.in_ok-push_short.ensures
    ∙ ap (λ found. found ++ short_secret c.client_at.result.now) c.loop-number.invariant
    ∙ sym (told_more short_secret c.args.config.now.clients c.loop-number.number c.client_at.result.now c.client_at.ensures.client)
