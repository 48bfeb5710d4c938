use Rattle.std.proofs.Common.{◌≡◌, length, map}
use Rattle.rsl_reply.specs.Dictionary.{value_in}
use Rattle.rsl_reply.proofs.lookup.value_in.Given as goal

abbrev pub invariant-loop-rows : goal.invariant-loop-rows
invariant-loop-rows l = value_in (map (λ row. (row.0, row.1, row.2.now, row.3)) l.rows) l.vendor l.number l.name ≡ value_in (map (λ row. (row.0, row.1, row.2.now, row.3)) l.initial.rows) l.vendor l.number l.name

abbrev pub decreases-loop-rows : goal.decreases-loop-rows
decreases-loop-rows l = length l.rows
