use Rattle.std.proofs.Common.{◌≡◌, take}
use Rattle.std.specs.List.{flat_map}
use Rattle.rld_export.specs.Sessions.{still_one}
use Rattle.rld_export.proofs.looking.still.Given as goal

-- the sessions that were looked at
abbrev pub invariant-loop-held : goal.invariant-loop-held
invariant-loop-held l = l.rest.items ≡ flat_map (still_one l.rules l.now) (take l.held-index l.helds)
