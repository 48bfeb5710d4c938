-- The buffer held zeros alone, and the key is written at its start.
use Rattle.std.proofs.Common.{List, ℕ, ◌++◌, length, ap}
use Rattle.std.proofs.lemmas.Bool.{le-leb}
use Rattle.std.proofs.lemmas.List.{drop-replicate}
use Rattle.rsl_auth.proofs.hmac.key_block.Goals as goal

pub returns-then-key-le-BLOCK_LEN : goal.returns-then-key-le-BLOCK_LEN
returns-then-key-le-BLOCK_LEN c =
    let key = c.args.key.now in
    rw (c.copy_from_slice.ensures.after, le-leb (length key) 64 c.if-key-le-BLOCK_LEN.true)
    (ap (λ (rest : List ℕ). key ++ rest) (drop-replicate (length key) 64 0))
