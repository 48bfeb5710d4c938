-- The copy was signed with the authenticator of the request, and has the right value.
use Rattle.std.proofs.Common.{◌≡◌, ◌+◌, ◌-◌, ap, ◌∙◌, List, ℕ, take, drop, arith}
use Rattle.std.specs.Str.{bytes_eq}
use Rattle.rsl_auth.specs.Signature.{signature, signed, value_at}
use Rattle.rld_control.specs.Answer.{is_signed_for}
use Rattle.rld_control.proofs.SignatureLaws.{value_at_signed}
use Rattle.rld_control.proofs.signature.is_signed_for.Goals as goal

pub returns : goal.returns
unfolding is_signed_for
returns c =
    let packet : List ℕ = c.args.packet.now in
    let at = c.args.at in
    let sixteen : (at + 16) - at ≡ 16 = omega arith in
    let right : value_at c.sign.new.packet at ≡ signature packet at c.args.request_auth.now c.args.secret.now =
    ap (λ (x : List ℕ). value_at x at) (c.sign.ensures.signed ∙ ap (λ (x : List ℕ). signed x at c.args.request_auth.now c.args.secret.now) c.copy_from_slice.ensures.after)
    ∙ value_at_signed packet at c.args.request_auth.now c.args.secret.now c.requires.within
    in
    c.same_octets.ensures
    ∙ ap (λ (n : ℕ). bytes_eq (take n (drop at packet)) (take n (drop at c.sign.new.packet))) sixteen
    ∙ ap (λ (x : List ℕ). bytes_eq (value_at packet at) x) right
