use Rattle.std.proofs.Common.{◌≡◌, ◌∷◌, length, take, ◌||◌, not}
use Rattle.std.specs.Prelude.{filter}
use Rattle.rsl_session.specs.Past.{looking_back}
use Rattle.rsl_session.specs.Held.{ends, held_links, yields}
use Rattle.rsl_rule.specs.Holding.{standings}
use Rattle.rsl_rule.proofs.holding.links_left.Given as goal

abbrev pub invariant-loop-held : goal.invariant-loop-held
invariant-loop-held l =
    l.left.items ≡ standings (l.entry ∷ looking_back l.history)
    (filter (λ link. not (ends l.rules (looking_back l.history) l.entry.event link || yields link l.entry.outcome)) (take (length l.yielded) (held_links l.rules (looking_back l.history))))
