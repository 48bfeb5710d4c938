use Rattle.std.proofs.Common.{◌≡◌, take}
use Rattle.std.specs.Prelude.{None}
use Rattle.rsl_session.specs.Past.{looking_back}
use Rattle.rsl_session.specs.Binding.{bundle_at}
use Rattle.rsl_rule.proofs.binding.bundle_of_link.Given as goal

abbrev pub invariant-loop-at : goal.invariant-loop-at
invariant-loop-at l = bundle_at l.link (looking_back (take l.at l.history)) ≡ None
