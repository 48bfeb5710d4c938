use Rattle.std.proofs.Common.{◌≡◌, take}
use Rattle.std.specs.List.{flat_map}
use Rattle.rld_export.specs.Saved.{held_saved}
use Rattle.rld_export.proofs.looking.held_in.Given as goal

-- the sessions of the links that were looked at
abbrev pub invariant-loop-link : goal.invariant-loop-link
invariant-loop-link l = l.held.items ≡ flat_map (held_saved l.began l.helds) (take l.link-index l.links)
