use Rattle.rsl_serve.proofs.Reported.{is_printed}
use Rattle.rsl_serve.proofs.server.Server.output.Goals as goal

pub returns : goal.returns
returns g c =
    is_printed c.args.self.now.service.config c.args.auth.now c.args.acct.now
    c.in_ok-lines.lines.bytes.items c.in_ok-report.report.items c.in_ok-report.ensures c.in_ok-lines.ensures
