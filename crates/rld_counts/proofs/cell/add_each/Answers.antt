use Rattle.std.proofs.Common.{◌<◌, [], length, arith, ◌∙◌, length-set}
use Rattle.std.proofs.lemmas.List.{get_or_default}
use Rattle.rld_counts.proofs.Noting.{joined_more, rest_same}
use Rattle.rld_counts.proofs.cell.add_each.Goals as goal

pub loop-client-preserved : goal.loop-client-preserved
loop-client-preserved c =
    let now = c.loop-client.clients in
    let others = c.args.others.now in
    let client = c.loop-client.client in
    let in_now : client < length now = omega arith in
    let in_others : client < length others = omega arith in
    record {
      len = length-set now client c.add.new.self ∙ c.loop-client.invariant.len;
      joined =
          joined_more c.args.clients.now others now client c.add.new.self in_now
          (λ ends more was and.
          c.add.ensures.joined ends more (get_or_default now client c.index-clients-client.result [] in_now ∙ was)
          (c.index-others-client.is ∙ get_or_default others client c.index-others-client.result [] in_others ∙ and))
          (c.loop-client.invariant.rest client (omega arith)) c.loop-client.invariant.joined;
      rest = rest_same c.args.clients.now now client c.add.new.self c.loop-client.invariant.rest;
    }
