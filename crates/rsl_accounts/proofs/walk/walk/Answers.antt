use Rattle.std.proofs.Common.{◌++◌, length}
use Rattle.std.proofs.lemmas.Result.{err_from_is_err_and}
use Rattle.std.specs.List.{flat_map}
use Rattle.rsl_accounts.specs.Walk.{walk_over, settings_checks, count_checks, client_checks, account_checks}
use Rattle.rsl_accounts.proofs.Faults.{checks_here, checks_next}
use Rattle.rsl_accounts.proofs.walk.walk.Goals as goal

pub returns-in_err-check : goal.returns-in_err-check
unfolding walk_over
returns-in_err-check c =
    let p = err_from_is_err_and c.from_residual.result c.from_residual.ensures.1 in
    let settings = settings_checks c.args.settings.now in
    let counts = count_checks (length c.args.clients.now) (length c.args.accounts.now) in
    let clients = flat_map (client_checks c.args.settings.now.version) c.args.clients.now in
    let accounts = flat_map (account_checks c.args.settings.now.version) c.args.accounts.now in
    rw (p.1, p.2)
    (checks_here (settings ++ counts ++ clients) accounts (checks_here (settings ++ counts) clients (checks_here settings counts c.in_err-check.ensures)))

pub returns-in_err-check_counts : goal.returns-in_err-check_counts
unfolding walk_over
returns-in_err-check_counts c =
    let p = err_from_is_err_and c.from_residual-in_err-check_counts.result c.from_residual-in_err-check_counts.ensures.1 in
    let settings = settings_checks c.args.settings.now in
    let counts = count_checks (length c.args.clients.now) (length c.args.accounts.now) in
    let clients = flat_map (client_checks c.args.settings.now.version) c.args.clients.now in
    let accounts = flat_map (account_checks c.args.settings.now.version) c.args.accounts.now in
    rw (p.1, p.2)
    (checks_here (settings ++ counts ++ clients) accounts (checks_here (settings ++ counts) clients (checks_next settings counts c.in_ok-check.ensures c.in_err-check_counts.ensures)))

pub returns-in_err-check_clients : goal.returns-in_err-check_clients
unfolding walk_over
returns-in_err-check_clients c =
    let p = err_from_is_err_and c.from_residual-in_err-check_clients.result c.from_residual-in_err-check_clients.ensures.1 in
    let settings = settings_checks c.args.settings.now in
    let counts = count_checks (length c.args.clients.now) (length c.args.accounts.now) in
    let clients = flat_map (client_checks c.args.settings.now.version) c.args.clients.now in
    let accounts = flat_map (account_checks c.args.settings.now.version) c.args.accounts.now in
    rw (p.1, p.2)
    (checks_here (settings ++ counts ++ clients) accounts (checks_next (settings ++ counts) clients (checks_next settings counts c.in_ok-check.ensures c.in_ok-check_counts.ensures) c.in_err-check_clients.ensures))
