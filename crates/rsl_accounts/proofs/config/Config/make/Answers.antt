use Rattle.std.proofs.Common.{Some, sym, ap, ◌∙◌}
use Rattle.std.proofs.lemmas.Result.{err_from_is_err_and}
use Rattle.rsl_accounts.proofs.Made.{fault_in_walk}
use Rattle.rsl_accounts.proofs.Memory.{no_memory_in_walk}
use Rattle.rsl_accounts.proofs.config.Config.make.Goals as goal

pub returns-in_err-walk-clause-fault : goal.returns-in_err-walk-clause-fault
returns-in_err-walk-clause-fault c =
    let p = err_from_is_err_and c.from_residual.result c.from_residual.ensures.1 in
    rw (p.1, p.2)
    (λ _. fault_in_walk c.args.settings c.args.clients.items c.args.accounts.items c.in_err-walk.field-0.0
    (rw (← c.as_slice.ensures.value, ← c.as_slice-2.ensures.value) (sym c.in_err-walk.ensures)))

pub returns-in_err-walk-clause-memory : goal.returns-in_err-walk-clause-memory
returns-in_err-walk-clause-memory c =
    let p = err_from_is_err_and c.from_residual.result c.from_residual.ensures.1 in
    rw (p.1, p.2)
    (λ none. absurd (no_memory_in_walk c.args.settings c.args.clients.items c.args.accounts.items
    (rw (← c.as_slice.ensures.value, ← c.as_slice-2.ensures.value) (sym c.in_err-walk.ensures) ∙ ap Some none)))
