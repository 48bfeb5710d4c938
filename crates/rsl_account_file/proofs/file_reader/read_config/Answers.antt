use Rattle.std.proofs.Common.{◌≡◌, Ok}
use Rattle.std.proofs.lemmas.Result.{err_from_is_err_and, IfOk-weaker, IfErr-weaker}
use Rattle.rsl_accounts.specs.Configuration.{configuration_of}
use Rattle.rsl_account_file.specs.File.{configuration_of_file, configuration_of_text}
use Rattle.rsl_account_file.proofs.file_reader.read_config.Goals as goal

pub returns-in_err-settings-clause-fault : goal.returns-in_err-settings-clause-fault
unfolding configuration_of_file
returns-in_err-settings-clause-fault c =
    let p = err_from_is_err_and c.from_residual-in_err-settings.result c.from_residual-in_err-settings.ensures.1 in
    rw (p.1, p.2) (λ other. rw (c.in_ok-file.ensures.ok, c.in_err-settings.ensures.fault other))

pub returns-in_err-shared-clause-fault : goal.returns-in_err-shared-clause-fault
unfolding configuration_of_file
returns-in_err-shared-clause-fault c =
    let p = err_from_is_err_and c.from_residual-in_err-shared.result c.from_residual-in_err-shared.ensures.1 in
    rw (p.1, p.2) (λ other. rw (c.in_ok-file.ensures.ok, c.in_ok-settings.ensures.ok, c.in_err-shared.ensures.fault other))

pub returns-in_err-client_tables-clause-fault : goal.returns-in_err-client_tables-clause-fault
unfolding configuration_of_file
returns-in_err-client_tables-clause-fault c =
    let p = err_from_is_err_and c.from_residual-in_err-client_tables.result c.from_residual-in_err-client_tables.ensures.1 in
    rw (p.1, p.2) (λ _. rw (c.in_ok-file.ensures.ok, c.in_ok-settings.ensures.ok, c.in_ok-shared.ensures.ok, c.in_err-client_tables.ensures.fault))

pub returns-in_err-account_tables-clause-fault : goal.returns-in_err-account_tables-clause-fault
unfolding configuration_of_file
returns-in_err-account_tables-clause-fault c =
    let p = err_from_is_err_and c.from_residual-in_err-account_tables.result c.from_residual-in_err-account_tables.ensures.1 in
    rw (p.1, p.2)
    (λ _. rw (c.in_ok-file.ensures.ok, c.in_ok-settings.ensures.ok, c.in_ok-shared.ensures.ok, c.in_ok-client_tables.ensures.ok, c.in_err-account_tables.ensures.fault))

pub returns-in_err-clients-clause-fault : goal.returns-in_err-clients-clause-fault
unfolding configuration_of_file
returns-in_err-clients-clause-fault c =
    let p = err_from_is_err_and c.from_residual-in_err-clients.result c.from_residual-in_err-clients.ensures.1 in
    rw (p.1, p.2)
    (λ other. rw (c.in_ok-file.ensures.ok, c.in_ok-settings.ensures.ok, c.in_ok-shared.ensures.ok, c.in_ok-client_tables.ensures.ok, c.in_ok-account_tables.ensures.ok, c.in_err-clients.ensures.fault other))

pub returns-in_err-accounts-clause-fault : goal.returns-in_err-accounts-clause-fault
unfolding configuration_of_file
returns-in_err-accounts-clause-fault c =
    let p = err_from_is_err_and c.from_residual-in_err-accounts.result c.from_residual-in_err-accounts.ensures.1 in
    rw (p.1, p.2)
    (λ other.
    rw (c.in_ok-file.ensures.ok, c.in_ok-settings.ensures.ok, c.in_ok-shared.ensures.ok, c.in_ok-client_tables.ensures.ok, c.in_ok-account_tables.ensures.ok, c.in_ok-clients.ensures.ok, c.in_err-accounts.ensures.fault other))

pub returns-clause-ok : goal.returns-clause-ok
unfolding configuration_of_file
returns-clause-ok c =
    IfOk-weaker c.make.result
    (λ config. configuration_of c.in_ok-settings.settings c.in_ok-clients.clients.items c.in_ok-accounts.accounts.items ≡ Ok config)
    (λ config. configuration_of_text c.args.names.now c.args.text.now ≡ Ok config)
    (λ config made.
    rw (c.in_ok-file.ensures.ok, c.in_ok-settings.ensures.ok, c.in_ok-shared.ensures.ok, c.in_ok-client_tables.ensures.ok, c.in_ok-account_tables.ensures.ok, c.in_ok-clients.ensures.ok, c.in_ok-accounts.ensures.ok) made)
    c.make.ensures.ok

pub returns-clause-fault : goal.returns-clause-fault
unfolding configuration_of_file
returns-clause-fault c =
    IfErr-weaker c.make.result _ _
    (λ fault made other.
    rw (c.in_ok-file.ensures.ok, c.in_ok-settings.ensures.ok, c.in_ok-shared.ensures.ok, c.in_ok-client_tables.ensures.ok, c.in_ok-account_tables.ensures.ok, c.in_ok-clients.ensures.ok, c.in_ok-accounts.ensures.ok) (made other))
    c.make.ensures.fault
