use Rattle.std.proofs.Common.{◌<◌, length, subst}
use Rattle.rsl_accounts.proofs.Times.{times_more}
use Rattle.rsl_accounts.proofs.config.fill_times.Goals as goal

pub loop-account-preserved : goal.loop-account-preserved
loop-account-preserved c =
    times_more c.args.settings.now c.args.accounts.items c.loop-account.account-items c.loop-account.account-index c.account-item.result c.rules_of-account.result c.interim_of-account.result (subst (λ items. c.loop-account.account-index < length items) c.deref_mut-account-items.ensures.value c.loop-account-test.true) c.loop-account.invariant c.account-item.is c.rules_of-account.ensures c.interim_of-account.ensures
