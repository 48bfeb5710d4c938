use Rattle.std.proofs.Common.{◌≡◌, length, map}
use Rattle.rsl_reply.specs.Dictionary.{attribute_in}
use Rattle.rsl_reply.proofs.lookup.attribute_in.Given as goal

abbrev pub invariant-loop-rows : goal.invariant-loop-rows
invariant-loop-rows l = attribute_in (map (λ row. (row.0.now, row.1, row.2, row.3)) l.rows) l.name ≡ attribute_in (map (λ row. (row.0.now, row.1, row.2, row.3)) l.initial.rows) l.name

abbrev pub decreases-loop-rows : goal.decreases-loop-rows
decreases-loop-rows l = length l.rows
