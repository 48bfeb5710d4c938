use Rattle.std.proofs.Common.{◌≡◌, ◌++◌, take}
use Rattle.std.specs.List.{flat_map}
use Rattle.rsl_session.specs.Saved.{saved_links}
use Rattle.rld_export.specs.Sessions.{gone_one}
use Rattle.rld_export.proofs.looking.push_gone.Given as goal

-- the ends of those that were looked at
abbrev pub invariant-loop-held : goal.invariant-loop-held
invariant-loop-held l =
    l.out.items ≡ l.fn.out.items ++ flat_map (gone_one l.end (saved_links l.links)) (take l.held-index l.helds)
