use Rattle.std.proofs.Common.{◌+◌, ℕ, List, length, sym, ap, subst, ◌∙◌}
use Rattle.std.proofs.lemmas.List.{length_push}
use Rattle.std.specs.Prelude.{IfSome, slice_get}
use Rattle.rld_look.proofs.Showing.{pushed}
use Rattle.rld_look.specs.Clients.{IsClientLook}
use Rattle.rld_look.specs.declared.look.ClientLook.{ClientLook}
use Rattle.rld_look.proofs.clients.client_looks.Goals as goal

pub loop-client-preserved : goal.loop-client-preserved
loop-client-preserved c = record {
  len =
      ap (λ (l : List ClientLook). length l) c.in_ok-push.ensures.items
      ∙ length_push c.loop-client.looks.items c.client_look.result
      ∙ ap (λ (n : ℕ). n + 1) c.loop-client.invariant.len;
  each = λ k.
      subst (λ (l : List ClientLook). IfSome (slice_get l k) (IsClientLook c.args.config.now c.args.auth.now c.args.acct.now k)) (sym c.in_ok-push.ensures.items)
      (pushed (λ i look. IsClientLook c.args.config.now c.args.auth.now c.args.acct.now i look) c.loop-client.looks.items c.client_look.result c.loop-client.invariant.each
      (subst (λ (n : ℕ). IsClientLook c.args.config.now c.args.auth.now c.args.acct.now n c.client_look.result) (sym c.loop-client.invariant.len) c.client_look.ensures) k);
}
