use Rattle.std.proofs.Common.{rules, ◌∙◌, ap}
use Rattle.std.proofs.lemmas.Fn.{filter_same}
use Rattle.rld_ask.specs.Asking.{asks_in}
use Rattle.rld_ask.proofs.Gathering.{asks_kept, is_kept}
use Rattle.rld_ask.proofs.ask_connections.AskConnections.close_ended.Goals as goal

-- what is kept are those that have not ended
pub returns : goal.returns
returns c =
    let kept = filter_same _ is_kept _ (λ x b f k. search rules) _ _ c.retain.ensures.filtered in
    ap asks_in kept ∙ asks_kept c.args.self.now.connections.items
