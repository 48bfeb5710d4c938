use Rattle.std.proofs.Common.{◌≡◌, ◌++◌, ℕ, List, length, take, drop, ap, sym, ◌∙◌, arith, length-drop}
use Rattle.rld_log.specs.Frames.{block}
use Rattle.rld_log.proofs.Blocks.{made, too_long, too_short}
use Rattle.rld_log.proofs.frame.first_block.Goals as goal

pub returns-in_default-clause-none : goal.returns-in_default-clause-none
returns-in_default-clause-none c = too_short c.args.octets.now (omega (arith, c.in_default.ensures.none))

pub returns-then-body-lt-DIGEST_LEN-clause-none : goal.returns-then-body-lt-DIGEST_LEN-clause-none
returns-then-body-lt-DIGEST_LEN-clause-none c =
    let some = c.in-Some.ensures.some in
    too_short c.args.octets.now (omega (arith, ap length some.2, length-drop 4 c.args.octets.now, c.if-body-lt-DIGEST_LEN.true))

pub returns-then-body-len-clause-none : goal.returns-then-body-len-clause-none
returns-then-body-len-clause-none c =
    let some = c.in-Some.ensures.some in
    too_long c.args.octets.now c.in-Some.len some.1
    (omega (arith, ap length some.2, length-drop 4 c.args.octets.now, c.split_at.ensures.back_len, c.if-body-lt-DIGEST_LEN.false, c.if-body-len.true))

pub returns-clause-some : goal.returns-clause-some
returns-clause-some c =
    let some = c.in-Some.ensures.some in
    let octets : List ℕ = c.args.octets.now in
    let len : ℕ = c.in-Some.len in
    let body : c.split_at.result.1.now ≡ drop 16 (drop 4 octets) = c.split_at.ensures.back ∙ ap (λ (x : List ℕ). drop 16 x) some.2 in
    let sum : c.split_at.result.0.now ≡ take 16 (drop 4 octets) = c.split_at.ensures.front ∙ ap (λ (x : List ℕ). take 16 x) some.2 in
    let payload : c.split_at-2.result.0.now ≡ take len (drop 16 (drop 4 octets)) = c.split_at-2.ensures.front ∙ ap (λ (x : List ℕ). take len x) body in
    let rest : c.split_at-2.result.1.now ≡ drop len (drop 16 (drop 4 octets)) = c.split_at-2.ensures.back ∙ ap (λ (x : List ℕ). drop len x) body in
    let whole = made octets len (λ i. omega (arith, c.type_inv.octets i)) some.0 some.1 (omega (arith, ap length body, c.if-body-len.false)) in
    whole ∙ ap (λ (x : List ℕ). block x (take len (drop 16 (drop 4 octets))) ++ drop len (drop 16 (drop 4 octets))) (sym sum)
    ∙ ap (λ (x : List ℕ). block c.split_at.result.0.now x ++ drop len (drop 16 (drop 4 octets))) (sym payload)
    ∙ ap (λ (x : List ℕ). block c.split_at.result.0.now c.split_at-2.result.0.now ++ x) (sym rest)

pub returns-clause-shorter : goal.returns-clause-shorter
returns-clause-shorter c =
    let some = c.in-Some.ensures.some in
    omega (arith, some.0, ap length some.2, length-drop 4 c.args.octets.now, c.split_at.ensures.back_len, c.split_at-2.ensures.back_len)
