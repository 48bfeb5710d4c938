use Rattle.rsl_rule.proofs.Looking.{entry_read}
use Rattle.rsl_rule.proofs.link.entry_at.Goals as goal

pub returns-else-number-eq0 : goal.returns-else-number-eq0
returns-else-number-eq0 c =
    let got = c.get.ensures.lookup in
    entry_read c.args.history.now c.args.number c.get.result c.if-number-eq0.false got.0 got.1
