use Rattle.std.proofs.Common.{◌≡◌, length, take, not}
use Rattle.std.specs.Prelude.{filter}
use Rattle.rsl_session.specs.Past.{looking_back}
use Rattle.rsl_session.specs.Lapse.{lapses}
use Rattle.rsl_session.specs.Held.{held_links}
use Rattle.rsl_rule.specs.Holding.{standings}
use Rattle.rsl_rule.proofs.held.links_before.Given as goal

abbrev pub invariant-loop-held : goal.invariant-loop-held
invariant-loop-held l =
    l.links.items ≡ standings (looking_back l.history)
    (filter (λ link. not (lapses l.rules (looking_back l.history) l.event link)) (take (length l.yielded) (held_links l.rules (looking_back l.history))))
