use Rattle.std.proofs.Common.{◌∙◌, sym, arith, vec_len}
use Rattle.std.proofs.lemmas.Bool.{eqb-true}
use Rattle.std.proofs.lemmas.List.{nil_from_length}
use Rattle.rld_store.proofs.beginning.check_empty.Goals as goal

pub returns-then-is_empty-clause-empty : goal.returns-then-is_empty-clause-empty
returns-then-is_empty-clause-empty g c = λ told. sym (c.in_ok-octets.ensures.octets told) ∙ nil_from_length c.in_ok-octets.octets.items
    (omega (arith, c.in_ok-octets.octets.ok, eqb-true (vec_len c.in_ok-octets.octets) 0 (sym c.if-is_empty.ensures)))
