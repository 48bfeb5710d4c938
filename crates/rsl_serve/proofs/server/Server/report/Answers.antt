use Rattle.std.proofs.Common.{List, ap, ◌∙◌}
use Rattle.rsl_accounts.specs.Configuration.{Configuration}
use Rattle.rsl_record.specs.Table.{table}
use Rattle.rsl_serve.proofs.Reported.{has_reported}
use Rattle.rsl_serve.proofs.server.Server.report.Goals as goal
use Rattle.rsl_shard.specs.declared.row.Row.{Row}

pub returns : goal.returns
returns g c =
    has_reported c.args.self.now.service.config c.in_ok-rows.rows.items c.in_ok-report.report.items
    c.config.ensures.limits c.in_ok-rows.ensures
    (c.in_ok-report.ensures
    ∙ ap (λ (config : Configuration). table config c.as_slice.result.now) c.config.ensures.config
    ∙ ap (λ (rows : List Row). table c.args.self.now.service.config rows) c.as_slice.ensures.value)
