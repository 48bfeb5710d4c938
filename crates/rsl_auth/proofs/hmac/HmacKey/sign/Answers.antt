-- The signature is written over the value.
use Rattle.std.proofs.Common.{arith, ◌∙◌}
use Rattle.rsl_auth.proofs.SignatureLemmas.{signed_by_write}
use Rattle.rsl_auth.proofs.hmac.HmacKey.sign.Goals as goal

pub returns : goal.returns
returns c secret kept =
    signed_by_write c.args.packet.now c.args.at _ _ _ _ (omega arith) (c.copy_from_slice.ensures.after ∙ c.signature_of-value.ensures secret kept)
