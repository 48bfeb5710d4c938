use Rattle.std.proofs.Common.{ℕ, List, Bor, map, subst}
use Rattle.rld_store.specs.Former.{EndsFormerly}
use Rattle.rld_store.proofs.former.read_former.Goals as goal

pub returns-clause-ends : goal.returns-clause-ends
returns-clause-ends c = record {
  payloads = map (λ (payload : Bor (List ℕ)). payload.now) c.in_ok-payloads.payloads.items;
  has = c.in_ok-payloads.ensures;
  ends = subst (λ (l : List (Bor (List ℕ))). EndsFormerly c.args.config.now c.args.shards (map (λ (payload : Bor (List ℕ)). payload.now) l)
      c.in_ok-header.header c.in_ok-header.books) c.deref.ensures.value c.in_ok-header.ensures.ends;
}
