use Rattle.std.proofs.Common.{◌≡◌, drop}
use Rattle.rsl_session.specs.Sweep.{swept_in}
use Rattle.rsl_rule.specs.Since.{acts_since}
use Rattle.rsl_rule.proofs.sweep.is_swept_since.Given as goal

abbrev pub invariant-loop-entry : goal.invariant-loop-entry
invariant-loop-entry l = swept_in (acts_since l.now (drop l.entry-index l.entries)) l.nas l.at ≡ swept_in (acts_since l.at l.entries) l.nas l.at
