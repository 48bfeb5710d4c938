-- The Request Authenticator is written first, and the digest of all over it.
use Rattle.rsl_auth.proofs.AuthenticatorLemmas.{is_accounting_authentic_by_seal, sealed_by_writes}
use Rattle.rsl_auth.proofs.authenticator.seal.Goals as goal

pub returns-clause-sealed : goal.returns-clause-sealed
returns-clause-sealed c =
    sealed_by_writes c.args.packet.now c.args.request_auth.now _ _ _ c.args.secret.now c.requires c.told-request_auth
    c.copy_from_slice.ensures.after (c.finalize.ensures _ (c.update-2.ensures _ (c.update.ensures _ c.new-hasher.ensures)))
    c.copy_from_slice-2.ensures.after

pub returns-clause-accounting : goal.returns-clause-accounting
returns-clause-accounting c zeros =
    is_accounting_authentic_by_seal c.args.packet.now _ c.args.request_auth.now c.args.secret.now c.requires (returns-clause-sealed c) zeros
