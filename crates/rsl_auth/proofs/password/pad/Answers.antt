-- The buffer held NULs alone, and the password is written at its start.
use Rattle.std.proofs.Common.{List, ℕ, ◌++◌, length, ap}
use Rattle.std.proofs.lemmas.List.{drop-replicate}
use Rattle.rsl_auth.proofs.password.pad.Goals as goal

pub returns : goal.returns
returns c =
    let password = c.args.password.now in
    rw c.copy_from_slice.ensures.after (ap (λ (rest : List ℕ). password ++ rest) (drop-replicate (length password) 128 0))
