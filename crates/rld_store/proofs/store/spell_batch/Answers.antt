use Rattle.std.proofs.Common.{ℕ, List, drop, ap, ◌∙◌}
use Rattle.std.proofs.lemmas.List.{drop_at}
use Rattle.rld_spelling.specs.Moves.{moves_field}
use Rattle.rld_store.proofs.store.spell_batch.Goals as goal

pub returns-in-Some-clause-spelled : goal.returns-in-Some-clause-spelled
returns-in-Some-clause-spelled c =
    ap (λ (l : List ℕ). drop 20 l) c.in-Ok.ensures.spelled ∙ drop_at c.leave_head.new.octets.items ((moves_field c.args.counts).spell c.args.batch.now) 20 c.in_ok-leave_head.ensures
