-- The octets are those of the padded password, as far as they go.
use Rattle.std.proofs.Common.{◌∙◌}
use Rattle.rsl_auth.proofs.PasswordLemmas.{is_padded_by_buffer, is_padded_too_long}
use Rattle.rsl_auth.proofs.password.is_followed_by_nuls.Goals as goal

pub returns-then-octets-password : goal.returns-then-octets-password
returns-then-octets-password c = is_padded_too_long _ _ c.if-octets-password.true

pub returns : goal.returns
returns c =
    c.same_octets.ensures
    ∙ is_padded_by_buffer c.args.octets.now c.args.password.now c.pad-padded.result c.if-octets-password.false c.requires c.pad-padded.ensures
