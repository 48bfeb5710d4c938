use Rattle.std.proofs.Common.{◌≡◌, take}
use Rattle.std.specs.Prelude.{None}
use Rattle.rsl_session.specs.Past.{looking_back}
use Rattle.rsl_session.specs.Binding.{session_at}
use Rattle.rsl_rule.proofs.binding.session_of_link.Given as goal

abbrev pub invariant-loop-at : goal.invariant-loop-at
invariant-loop-at l = session_at l.link (looking_back (take l.at l.history)) ≡ None
