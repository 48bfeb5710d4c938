use Rattle.std.proofs.Common.{◌≡◌, length, map}
use Rattle.rsl_reply.specs.Dictionary.{value_name_in}
use Rattle.rsl_reply.proofs.lookup.value_name_in.Given as goal

abbrev pub invariant-loop-rows : goal.invariant-loop-rows
invariant-loop-rows l = value_name_in (map (λ row. (row.0, row.1, row.2.now, row.3)) l.rows) l.vendor l.number l.value ≡ value_name_in (map (λ row. (row.0, row.1, row.2.now, row.3)) l.initial.rows) l.vendor l.number l.value

abbrev pub decreases-loop-rows : goal.decreases-loop-rows
decreases-loop-rows l = length l.rows
