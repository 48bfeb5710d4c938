use Rattle.std.proofs.Common.{◌≡◌, take, map}
use Rattle.rsl_session.specs.Past.{looking_back}
use Rattle.rsl_session.specs.Binding.{bundle_at}
use Rattle.rsl_rule.proofs.count.bundles_of.Given as goal

abbrev pub invariant-loop-link : goal.invariant-loop-link
invariant-loop-link l = l.each.items ≡ map (λ link. bundle_at link (looking_back l.history)) (take l.link-index l.links)
