use Rattle.std.proofs.Common.{ℕ, List, drop, ap, ◌∙◌}
use Rattle.std.proofs.lemmas.List.{drop_at}
use Rattle.rld_log.proofs.frame.behind_head.Goals as goal

pub returns-clause-payload : goal.returns-clause-payload
returns-clause-payload c =
    ap (λ (l : List ℕ). drop 20 l) c.in_ok-extend_from_slice.ensures.items ∙ drop_at c.leave_head.new.octets.items c.args.payload.now 20 c.in_ok-leave_head.ensures
