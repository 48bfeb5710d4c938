use Rattle.std.proofs.Common.{refl, ◌∙◌}
use Rattle.rsl_accounts.proofs.Twice.{key_refused, key_added}
use Rattle.rsl_accounts.proofs.config.index_names.Goals as goal

pub returns-then-not-branch-clause-fault : goal.returns-then-not-branch-clause-fault
returns-then-not-branch-clause-fault c = λ _.
    (refl, key_refused (λ name. name.items) (λ account. account.name) c.loop-account.index.keys c.args.accounts.now c.loop-account.account-index c.account-item.result c.loop-account-test.true c.account-item.is c.in_ok-name.name (c.in_ok-name.ensures.items ∙ c.as_bytes.ensures.octets) c.loop-account.invariant.0 c.loop-account.invariant.1 c.in_ok-insert.field-0 c.in_ok-insert.ensures.added c.if-not-branch.true)

pub loop-account-preserved : goal.loop-account-preserved
loop-account-preserved c =
    key_added (λ name. name.items) (λ account. account.name) c.loop-account.index.keys c.args.accounts.now c.loop-account.account-index c.account-item.result c.loop-account-test.true c.account-item.is c.in_ok-name.name (c.in_ok-name.ensures.items ∙ c.as_bytes.ensures.octets) c.loop-account.invariant.0 c.loop-account.invariant.1 c.in_ok-insert.field-0 c.in_ok-insert.ensures.added c.if-not-branch.false c.insert.new.self.keys c.in_ok-insert.ensures.keys
