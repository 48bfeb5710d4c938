use Rattle.std.proofs.Common.{◌+◌, length, ap, ◌∙◌, List, ℕ}
use Rattle.std.proofs.lemmas.List.{length_push}
use Rattle.rld_counts.proofs.Noting.{new_counted}
use Rattle.rld_counts.proofs.client_counts.new_clients.Goals as goal

pub loop-preserved : goal.loop-preserved
loop-preserved c = record {
  len =
      ap (λ (l : List (List ℕ)). length l) c.in_ok-push.ensures.items
      ∙ length_push c.loop.each.items c.new.result
      ∙ ap (λ (n : ℕ). n + 1) c.loop.invariant.len;
  none = new_counted c.loop.each.items c.push.new.self.items c.new.result c.new.ensures c.in_ok-push.ensures.items c.loop.invariant.none;
}
