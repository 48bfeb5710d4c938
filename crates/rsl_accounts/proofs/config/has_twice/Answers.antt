use Rattle.std.proofs.Common.{sym}
use Rattle.rsl_accounts.proofs.Twice.{twice, not_twice}
use Rattle.rsl_accounts.proofs.config.has_twice.Goals as goal

pub returns-then-has_address : goal.returns-then-has_address
returns-then-has_address c =
    sym (twice (λ client. client.address) c.args.clients.now c.loop-number.number c.index-clients-number.result c.loop-number-test.true c.index-clients-number.is c.loop-number.invariant (sym c.if-has_address.ensures))

pub loop-number-preserved : goal.loop-number-preserved
loop-number-preserved c =
    not_twice (λ client. client.address) c.args.clients.now c.loop-number.number c.index-clients-number.result c.loop-number-test.true c.index-clients-number.is c.loop-number.invariant (sym c.if-has_address.ensures)
