-- A reply that is being written.
use Rattle.std.specs.Prelude.{ℕ, List, ◌++◌}
use Rattle.rsl_wire.specs.DraftSeen.{Begun}

-- a draft with these octets after its attributes
abbrev pub with_more : Begun → List ℕ → Begun
with_more draft octets = record draft { attributes = draft.attributes ++ octets }
