use Rattle.std.proofs.Common.{◌≡◌, length, map}
use Rattle.rsl_reply.specs.Dictionary.{name_in}
use Rattle.rsl_reply.proofs.lookup.name_in.Given as goal

abbrev pub invariant-loop-rows : goal.invariant-loop-rows
invariant-loop-rows l = name_in (map (λ row. (row.0.now, row.1, row.2, row.3)) l.rows) l.vendor l.number ≡ name_in (map (λ row. (row.0.now, row.1, row.2, row.3)) l.initial.rows) l.vendor l.number

abbrev pub decreases-loop-rows : goal.decreases-loop-rows
decreases-loop-rows l = length l.rows
