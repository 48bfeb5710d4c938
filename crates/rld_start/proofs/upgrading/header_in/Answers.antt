use Rattle.std.proofs.Common.{ℕ, ◌∷◌, List, Bor, map, ap, sym, subst, ◌∙◌}
use Rattle.rld_log.specs.Frames.{HasPayloads}
use Rattle.rld_log.specs.declared.reading.Frames.{Frames}
use Rattle.rld_start.proofs.upgrading.header_in.Goals as goal

pub returns-in-Ok : goal.returns-in-Ok
returns-in-Ok c = record {
  payloads = map (λ (payload : Bor (List ℕ)). payload.now) c.in_ok-payloads.payloads.items;
  has = subst (λ (f : Frames). HasPayloads f.octets.items (map (λ (payload : Bor (List ℕ)). payload.now) c.in_ok-payloads.payloads.items)) c.frames.ensures c.in_ok-payloads.ensures;
  first = c.in_ok-parts.parts.front.payload.now;
  rest = c.in_ok-parts.parts.snapshot.payload.now ∷ map (λ (payload : Bor (List ℕ)). payload.now) c.in_ok-parts.parts.batches.now;
  are = ap (λ (l : List (Bor (List ℕ))). map (λ (payload : Bor (List ℕ)). payload.now) l) (sym c.deref.ensures.value) ∙ c.in_ok-parts.ensures.are.are;
  read = c.in-Ok.ensures.read;
}
