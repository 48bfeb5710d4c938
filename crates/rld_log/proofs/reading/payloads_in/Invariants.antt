use Rattle.std.proofs.Common.{◌≡◌, ℕ, List, length, map}
use Rattle.std.specs.List.{AllByRecursion}
use Rattle.rld_log.specs.Frames.{Fits, frames}
use Rattle.rld_log.proofs.Readings.{IsLeft}
use Rattle.rld_log.proofs.reading.payloads_in.Given as goal

abbrev pub invariant-loop-block : goal.invariant-loop-block
invariant-loop-block l = record {
  fit : AllByRecursion Fits (map (λ payload. payload.now) l.found.items);
  left : (payloads : List (List ℕ)) → AllByRecursion Fits payloads → l.octets ≡ frames payloads → IsLeft payloads (map (λ payload. payload.now) l.found.items) l.left;
}

abbrev pub decreases-loop-block : goal.decreases-loop-block
decreases-loop-block l = length l.left
