use Rattle.std.proofs.Common.{◌≡◌, ◌++◌, take}
use Rattle.std.specs.List.{flat_map}
use Rattle.rld_counts.specs.Counts.{count_in}
use Rattle.rld_counts.specs.Fates.{at, causes_at, name_of, word_of}
use Rattle.rld_text.specs.Status.{end_member}
use Rattle.rld_text.proofs.status_object.push_gate.Given as goal

-- the members of the causes that were looked at
abbrev pub invariant-loop-cause : goal.invariant-loop-cause
invariant-loop-cause l =
    l.out.items
    ≡ l.fn.out.items ++ flat_map (λ cause. end_member (word_of l.gate) (name_of cause) (count_in l.counts (at l.gate cause))) (take l.cause-index (causes_at l.gate))
