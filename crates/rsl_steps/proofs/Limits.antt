-- The limits of one account among those of a configuration.
use Rattle.std.proofs.Common.{◌≡◌, ℕ, Some, subst}
use Rattle.std.specs.Prelude.{slice_get}
use Rattle.std.proofs.lemmas.Option.{slice_get_within, get_or_from_slice_get}
use Rattle.rsl_accounts.specs.Configuration.{Configuration}
use Rattle.rsl_accounts.specs.Limits.{IsAccount, IsConfiguration, RulesFit}
use Rattle.rsl_accounts.specs.declared.entry.Entry.{Entry}

pub account_fits : (config : Configuration) (account : ℕ) (entry : Entry) → IsConfiguration config → slice_get config.accounts account ≡ Some entry → RulesFit entry.rules
account_fits config account entry limits is =
    (subst (λ (x : Entry). IsAccount config.settings x) (get_or_from_slice_get config.accounts account entry entry is) (limits.each_account account entry (slice_get_within config.accounts account entry is))).rules
