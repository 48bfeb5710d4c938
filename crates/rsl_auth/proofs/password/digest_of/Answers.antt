-- The two stand one after the other in the piece that is digested.
use Rattle.std.proofs.Common.{refl, ap, ◌∙◌}
use Rattle.md5.specs.Md5.{md5}
use Rattle.rsl_auth.proofs.PasswordLemmas.{written_together}
use Rattle.rsl_auth.proofs.password.digest_of.Goals as goal

pub returns : goal.returns
returns c =
    c.digest.ensures
    ∙ ap md5 (written_together c.args.secret.now c.args.before.now _ _ _ _ _ refl refl c.copy_from_slice.ensures.after c.copy_from_slice-2.ensures.after)
