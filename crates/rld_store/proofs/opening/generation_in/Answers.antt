use Rattle.std.proofs.Common.{◌∙◌, ℕ, List, Bor, map, sym, ap, subst}
use Rattle.rld_log.proofs.Callers.{have_one_reading}
use Rattle.rld_store.specs.Generations.{IsGeneration}
use Rattle.rld_store.specs.Opening.{IsThere}
use Rattle.rld_store.proofs.opening.generation_in.Goals as goal

pub returns-clause-found : goal.returns-clause-found
returns-clause-found c = λ before has header begun moves is of.
    c.in_ok-read_generation.ensures.found header begun moves is
    (subst (λ (l : List (List ℕ)). IsGeneration c.args.config.now header begun moves l)
    (have_one_reading c.args.frames.now.octets.items before (map (λ (payload : Bor (List ℕ)). payload.now) c.in_ok-payloads.payloads.items) has c.in_ok-payloads.ensures
    ∙ ap (λ (l : List (Bor (List ℕ))). map (λ (payload : Bor (List ℕ)). payload.now) l) (sym c.deref.ensures.value)) of)

pub returns-clause-there : goal.returns-clause-there
returns-clause-there c = record {
  payloads = map (λ (payload : Bor (List ℕ)). payload.now) c.in_ok-payloads.payloads.items;
  has = c.in_ok-payloads.ensures;
  there = subst (λ (l : List (Bor (List ℕ))). IsThere c.args.config.now (map (λ (payload : Bor (List ℕ)). payload.now) l)
      c.in_ok-read_generation.field-0.header c.in_ok-read_generation.field-0.books c.in_ok-read_generation.field-0.moves)
      c.deref.ensures.value c.in_ok-read_generation.ensures.there;
}
