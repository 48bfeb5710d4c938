use Rattle.rld_log.proofs.Blocks.{no_block_no_frame, other_digest}
use Rattle.rld_log.proofs.frame.first_frame.Goals as goal

pub returns-in_default-clause-none : goal.returns-in_default-clause-none
returns-in_default-clause-none c = no_block_no_frame c.args.octets.now c.in_default.ensures.none

pub returns-then-not-is_digest-clause-none : goal.returns-then-not-is_digest-clause-none
returns-then-not-is_digest-clause-none c =
    let found = c.in-Some.found in
    other_digest c.args.octets.now found.sum.now found.payload.now found.rest.now c.in-Some.ensures.shape c.in-Some.ensures.some
    (λ same. let no = c.is_digest.ensures.1 same in absurd (cc (no, c.if-not-is_digest.true)))
