-- One more block is hidden at each turn, and at the end none is left.
use Rattle.std.proofs.Common.{refl}
use Rattle.std.proofs.lemmas.Slice.{pushed}
use Rattle.rsl_auth.proofs.PasswordLemmas.{hidden_blocks_more, hidden_blocks_all}
use Rattle.rsl_auth.proofs.password.hide_blocks.Goals as goal

pub loop-k-preserved : goal.loop-k-preserved
loop-k-preserved c =
    hidden_blocks_more _ _ _ _ _ _ _ _ _ c.loop-k-test.true
    (pushed c.mask-before.result refl c.in_ok-extend_from_slice.was c.extend_from_slice.ensures.items)
    c.mask-before.ensures c.loop-k.invariant

pub returns : goal.returns
returns c = hidden_blocks_all _ _ _ _ _ _ _ c.loop-k-test.false c.loop-k.invariant
