use Rattle.std.proofs.Common.{sym, subst, ap, ◌∙◌}
use Rattle.std.proofs.lemmas.Result.{err_from_is_err_and}
use Rattle.rsl_accounts.specs.Configuration.{names}
use Rattle.rsl_accounts.specs.Limits.{IsConfiguration}
use Rattle.rsl_accounts.proofs.Made.{twice_client, twice_account, keep_too_long, no_fault}
use Rattle.rsl_accounts.proofs.Within.{made_fits, names-with_times}
use Rattle.rsl_accounts.proofs.config.Config.assemble.Goals as goal

pub returns-then-has_twice-clause-fault : goal.returns-then-has_twice-clause-fault
returns-then-has_twice-clause-fault c = λ _.
    twice_client c.args.settings c.args.clients.items c.args.accounts.items
    c.requires
    (rw (← c.as_slice.ensures.value) (sym c.if-has_twice.ensures))

pub returns-in_err-names-clause-fault : goal.returns-in_err-names-clause-fault
returns-in_err-names-clause-fault c =
    let p = err_from_is_err_and c.from_residual.result c.from_residual.ensures.1 in
    rw (p.1, p.2)
    (λ other.
    let twice = c.in_err-names.ensures.fault other in
    rw twice.0
    (twice_account c.args.settings c.args.clients.items c.args.accounts.items
    c.requires
    (rw (← c.as_slice.ensures.value) (sym c.if-has_twice.ensures))
    (rw (← c.as_slice-2.ensures.value) twice.1)))

pub returns-in_err-names-clause-memory : goal.returns-in_err-names-clause-memory
returns-in_err-names-clause-memory c =
    let p = err_from_is_err_and c.from_residual.result c.from_residual.ensures.1 in
    rw (p.1, p.2) (λ _. (c.requires, rw (← c.as_slice.ensures.value) (sym c.if-has_twice.ensures)))

pub returns-then-settings-clause-fault : goal.returns-then-settings-clause-fault
returns-then-settings-clause-fault c = λ _.
    keep_too_long c.args.settings c.args.clients.items c.args.accounts.items
    c.requires
    (rw (← c.as_slice.ensures.value) (sym c.if-has_twice.ensures))
    (rw (← c.as_slice-2.ensures.value) c.in_ok-names.ensures.differ)
    c.if-settings.true

pub returns-in_err-keys-clause-memory : goal.returns-in_err-keys-clause-memory
returns-in_err-keys-clause-memory c =
    let p = err_from_is_err_and c.from_residual-in_err-keys.result c.from_residual-in_err-keys.ensures.1 in
    rw (p.1, p.2) (λ _. (c.requires, rw (← c.as_slice.ensures.value) (sym c.if-has_twice.ensures)))

pub invariant_of-result : goal.invariant_of-result
invariant_of-result c =
    record {
      limits = subst (λ accounts. IsConfiguration (record { settings = c.args.settings; clients = c.args.clients.items; accounts = accounts })) (sym c.fill_times.ensures)
          (made_fits c.args.settings c.args.clients.items c.args.accounts.items
          c.requires
          (rw (← c.as_slice.ensures.value) (sym c.if-has_twice.ensures))
          (rw (← c.as_slice-2.ensures.value) c.in_ok-names.ensures.differ)
          c.if-settings.false);
      keys = rw (← c.as_slice-3.ensures.value) c.in_ok-keys.ensures;
      index =
          c.in_ok-names.ensures.index
          ∙ ap names c.as_slice-2.ensures.value
          ∙ sym (names-with_times c.args.settings c.args.accounts.items)
          ∙ ap names (sym c.fill_times.ensures);
    }

pub returns-clause-ok : goal.returns-clause-ok
returns-clause-ok c =
    rw c.fill_times.ensures
    (no_fault c.args.settings c.args.clients.items c.args.accounts.items
    c.requires
    (rw (← c.as_slice.ensures.value) (sym c.if-has_twice.ensures))
    (rw (← c.as_slice-2.ensures.value) c.in_ok-names.ensures.differ)
    c.if-settings.false)
