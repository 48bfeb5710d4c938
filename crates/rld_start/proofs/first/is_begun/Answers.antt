use Rattle.std.proofs.Common.{rules, ℕ, List, map, Bor}
use Rattle.rld_start.proofs.Fronts.{few_are_no_two, parts_are_begun}
use Rattle.rld_start.proofs.first.is_begun.Goals as goal

pub returns-in-Ok-clause-begun : goal.returns-in-Ok-clause-begun
returns-in-Ok-clause-begun c = λ octets has.
    parts_are_begun octets (map (λ (payload : Bor (List ℕ)). payload.now) c.args.payloads.now) c.in-Ok._parts has c.in-Ok.ensures.are

pub returns-in-Err-Unbegun-clause-begun : goal.returns-in-Err-Unbegun-clause-begun
returns-in-Err-Unbegun-clause-begun c = λ octets has begun.
    few_are_no_two octets (map (λ (payload : Bor (List ℕ)). payload.now) c.args.payloads.now) has (search rules) begun.first begun.second begun.two
