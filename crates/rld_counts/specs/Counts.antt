-- Numbers of datagrams, by how they ended.
use Rattle.std.specs.Prelude.{ℕ, List, map, slice_index, sum}
use Rattle.rld_counts.specs.Fates.{at, causes_at, fate_number}
use Rattle.rld_counts.specs.Tally.{kept, tally_of}
use Rattle.rld_counts.specs.declared.fate.Fate.{Fate}
use Rattle.rld_counts.specs.declared.fate.TheConstants.{FATES}
use Rattle.rld_counts.specs.declared.gate.Gate.{Gate}

-- the counts of datagrams that ended so, by the numbers of the fates
abbrev pub counts_of : List Fate → List ℕ
counts_of fates = tally_of FATES (map fate_number fates)

-- the count of a fate
abbrev pub count_in : (counts : List ℕ) → Fate → ℕ
count_in counts fate = slice_index counts (fate_number fate)

-- the count of all that came to a gate
abbrev pub total_at : (counts : List ℕ) → Gate → ℕ
total_at counts gate = kept (sum (map (λ cause. count_in counts (at gate cause)) (causes_at gate)))
