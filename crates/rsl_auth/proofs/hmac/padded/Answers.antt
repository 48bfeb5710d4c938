-- One more octet is xor the pad at each turn.
use Rattle.std.proofs.Common.{◌<◌, length, bit_xor}
use Rattle.std.proofs.lemmas.List.{get_or_default}
use Rattle.std.proofs.lemmas.List.Edits.{map_over_more}
use Rattle.rsl_auth.proofs.HmacLemmas.{within_passed}
use Rattle.rsl_auth.proofs.hmac.padded.Goals as goal

pub loop-octet-preserved : goal.loop-octet-preserved
loop-octet-preserved c =
    let block = c.args.block.now in
    let items = c.loop-octet.octet-items in
    let i = c.loop-octet.octet-index in
    let within : i < length block = rw c.told-block c.loop-octet-test.true in
    map_over_more (λ octet. bit_xor octet c.args.pad) block items i _ within c.loop-octet.invariant
    (get_or_default items i 0 _ (within_passed (λ octet. bit_xor octet c.args.pad) block items i within c.loop-octet.invariant))
