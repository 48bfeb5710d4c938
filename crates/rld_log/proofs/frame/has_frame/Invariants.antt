use Rattle.std.proofs.Common.{◌↔◌, length}
use Rattle.rld_log.specs.Frames.{HasFrame}
use Rattle.rld_log.proofs.frame.has_frame.Given as goal

abbrev pub invariant-loop-found : goal.invariant-loop-found
invariant-loop-found l = HasFrame l.octets ↔ HasFrame l.rest

abbrev pub decreases-loop-found : goal.decreases-loop-found
decreases-loop-found l = length l.rest
