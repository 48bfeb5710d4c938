-- One more block is revealed at each turn, and at the end none is left.
use Rattle.std.proofs.Common.{◌≡◌, ◌+◌, ◌-◌, ◌*◌, List, ℕ, length, take, drop, arith, refl, ◌∙◌}
use Rattle.std.proofs.lemmas.List.{length-take-le, length-drop}
use Rattle.rsl_auth.proofs.PasswordLemmas.{buffer_more, revealed_blocks_more, revealed_blocks_all}
use Rattle.rsl_auth.proofs.password.reveal.Goals as goal

pub loop-k-preserved : goal.loop-k-preserved
loop-k-preserved c =
    let k = c.loop-k.k in
    let value = c.args.value.now in
    let block : List ℕ = take (16 * k + 16 - 16 * k) (drop (16 * k) value) in
    let len : length block ≡ 16 =
    length-take-le (16 * k + 16 - 16 * k) (drop (16 * k) value) (omega (arith, length-drop (16 * k) value))
    ∙ omega arith in
    let written =
    buffer_more c.loop-k.buffer c.copy_from_slice.new.self block c.args.secret.now c.loop-k.before.now k
    (c.copy_from_slice.ensures.after ∙ c.mask.ensures) len (omega arith) in
    record {
      whole = written.0 ∙ c.loop-k.invariant.whole;
      joined = revealed_blocks_more _ _ _ _ _ _ _ _ _ c.loop-k-test.true written.1 refl c.loop-k.invariant.joined;
    }

pub returns : goal.returns
returns c =
    let all : 16 * c.loop-k.k ≡ length c.args.value.now = omega arith in
    rw all at (revealed_blocks_all _ _ _ _ _ _ _ c.loop-k-test.false c.loop-k.invariant.joined)
