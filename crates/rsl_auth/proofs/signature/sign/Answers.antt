-- A request that was signed with its own Authenticator is found right.
use Rattle.rsl_auth.proofs.SignatureLemmas.{is_signed-signed}
use Rattle.rsl_auth.proofs.signature.sign.Goals as goal

pub returns-clause-right : goal.returns-clause-right
returns-clause-right c own =
    rw (c.sign.ensures c.args.secret.now c.new.ensures)
    (is_signed-signed c.args.packet.now c.args.at c.args.request_auth.now c.args.secret.now c.requires.after_header c.requires.within own)
