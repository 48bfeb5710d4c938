use Rattle.std.proofs.Common.{◌≡◌, Bool, false}
use Rattle.std.specs.Prelude.{IsTrue}
use Rattle.rld_serve.proofs.server.Server.prepared_for.Goals as goal

-- what is false is not true
never : (answer : Bool) → answer ≡ false → IsTrue answer → ⊥
never answer untrue so = cc

pub returns-then-has_same_table-clause-goes_on : goal.returns-then-has_same_table-clause-goes_on
returns-then-has_same_table-clause-goes_on g c = c.has_same_table.ensures.0 c.if-has_same_table.true

pub returns-clause-begins : goal.returns-clause-begins
returns-clause-begins g c = λ same.
    never c.has_same_table.result c.if-has_same_table.false (c.has_same_table.ensures.1 same)
