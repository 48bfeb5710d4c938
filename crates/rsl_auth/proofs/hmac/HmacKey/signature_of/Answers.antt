-- The parts that the digest was given are the message of the definition.
use Rattle.std.proofs.Common.{subst}
use Rattle.md5.specs.Md5.{Holds}
use Rattle.rsl_auth.specs.Hmac.{key_xor}
use Rattle.rsl_auth.specs.Signature.{signature}
use Rattle.rsl_auth.proofs.SignatureLemmas.{message_of_parts}
use Rattle.rsl_auth.proofs.hmac.HmacKey.signature_of.Goals as goal

pub returns : goal.returns
unfolding signature
returns c secret kept =
    let held =
    c.update-5.ensures _ (c.update-4.ensures _ (c.update-3.ensures _ (c.update-2.ensures _ (c.update.ensures _ (c.begun-inner.ensures secret kept))))) in
    c.finished.ensures secret _ kept
    (subst (Holds c.update-5.new.self)
    (message_of_parts (key_xor secret 0x36) c.args.packet.now c.args.request_auth.now c.args.at c.requires.after_header c.requires.within)
    held)
