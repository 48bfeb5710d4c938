use Rattle.std.proofs.Common.{List, ◌++◌}
use Rattle.rld_counts.specs.declared.fate.Fate.{Fate}
use Rattle.rld_look.specs.Backlog.{AreNoted, HasNoted, fates_of}
use Rattle.rld_look.proofs.backlog.Backlog.push_all.Given as goal

-- those that were pushed are noted, one after the other
abbrev pub invariant-loop-refusal : goal.invariant-loop-refusal
invariant-loop-refusal l =
    AreNoted l.yielded l.fn.self l.self
    × ((fates : List Fate) → HasNoted fates l.fn.self → HasNoted (fates ++ fates_of l.yielded) l.self)
