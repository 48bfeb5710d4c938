use Rattle.std.proofs.Common.{Bor, ℕ, List, map, take, ap, ◌∙◌}
use Rattle.std.proofs.lemmas.Result.{IfOk-weaker}
use Rattle.rld_log.proofs.Readings.{ends_have}
use Rattle.rld_log.proofs.reading.Frames.payloads.Goals as goal

pub returns : goal.returns
returns c =
    IfOk-weaker c.payloads_in.result _ _ (λ found are.
    ends_have c.args.self.now.octets.items c.split_at.result.0.now c.args.self.now.whole (map (λ (payload : Bor (List ℕ)). payload.now) found.items)
    c.args.self.now.ends (c.split_at.ensures.front ∙ ap (λ (x : List ℕ). take c.args.self.now.whole x) c.deref.ensures.value) are.0 are.1) c.payloads_in.ensures
