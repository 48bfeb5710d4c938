use Rattle.std.proofs.Common.{refl}
use Rattle.rld_log.specs.Frames.{behind}
use Rattle.rld_log.proofs.Blocks.{behind_it, is_frame, no_block_has_none}
use Rattle.rld_log.proofs.frame.has_frame.Goals as goal

pub returns-then-is_digest : goal.returns-then-is_digest
returns-then-is_digest c =
    let found = c.in-Some.found in
    let same = c.is_digest.ensures.0 c.if-is_digest.true in
    let has = is_frame c.loop-found.rest.now found.sum.now found.payload.now found.rest.now c.in-Some.ensures.shape c.in-Some.ensures.some same in
    (λ yes. c.loop-found.invariant.1 has, λ there. refl)

pub loop-found-preserved : goal.loop-found-preserved
loop-found-preserved c =
    let found = c.in-Some.found in (
      λ there. behind_it c.loop-found.rest.now found.sum.now found.payload.now found.rest.now c.in-Some.ensures.shape c.in-Some.ensures.some
          (λ same. let is = c.is_digest.ensures.1 same in absurd (cc (is, c.if-is_digest.false))) (c.loop-found.invariant.0 there),
      λ there. c.loop-found.invariant.1 (behind c.loop-found.rest.now found.sum.now found.payload.now found.rest.now c.in-Some.ensures.shape c.in-Some.ensures.some there),
    )

pub returns : goal.returns
returns c = (λ yes. absurd (cc yes), λ there. absurd (no_block_has_none c.loop-found.rest.now c.in_default.ensures.none (c.loop-found.invariant.0 there)))
