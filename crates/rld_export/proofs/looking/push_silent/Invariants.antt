use Rattle.std.proofs.Common.{◌≡◌, ◌++◌, take}
use Rattle.std.specs.List.{flat_map}
use Rattle.rld_export.specs.Sessions.{silent_one}
use Rattle.rld_export.proofs.looking.push_silent.Given as goal

-- the ends of those that were looked at
abbrev pub invariant-loop-held : goal.invariant-loop-held
invariant-loop-held l = l.out.items ≡ l.fn.out.items ++ flat_map (silent_one l.rules l.now) (take l.held-index l.helds)
