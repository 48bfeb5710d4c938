use Rattle.std.proofs.Common.{◌≡◌, ℕ, length, List, Option, Some, ap, arith, ◌∙◌}
use Rattle.std.proofs.lemmas.Bool.Decides.{nat_tests}
use Rattle.rld_values.specs.Read.{unescaped}
use Rattle.rld_values.proofs.Fronts.{onto_all, read_none}
use Rattle.rld_values.proofs.reading.read_escaped.Goals as goal

pub returns : goal.returns
returns c =
    let empty : length c.loop-rest.rest.now ≡ 0 = grind (arith, nat_tests) in
    ap (λ (octets : List ℕ). Some octets) (c.in_ok-from_slice.ensures.copy ∙ c.as_slice.ensures.value)
    ∙ onto_all unescaped c.loop-rest.octets.items c.loop-rest.rest.now _ read_none empty c.loop-rest.invariant
