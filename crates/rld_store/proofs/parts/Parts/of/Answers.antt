use Rattle.std.proofs.Common.{List, ℕ, Bor, map}
use Rattle.rld_store.proofs.Replaying.{parts_are}
use Rattle.rld_store.proofs.parts.Parts.of.Goals as goal

pub returns-clause-are : goal.returns-clause-are
returns-clause-are c =
    parts_are (map (λ (payload : Bor (List ℕ)). payload.now) c.args.payloads.now) c.in-Some.front.now c.in-Some.snapshot.now
    (record { front = c.in_ok-front.front; snapshot = c.in_ok-snapshot.snapshot; batches = c.in-Some.batches })
    c.in-Some.ensures.some c.in_ok-front.ensures.payload c.in_ok-snapshot.ensures.payload c.in_ok-front.ensures.fits c.in_ok-snapshot.ensures.fits c.in_ok-front.ensures.end c.in_ok-snapshot.ensures.end
