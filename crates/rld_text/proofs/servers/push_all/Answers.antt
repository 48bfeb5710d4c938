use Rattle.rld_text.specs.Metrics.{servers_all}
use Rattle.rld_values.proofs.Callers.{written_7}
use Rattle.rld_text.proofs.servers.push_all.Goals as goal

pub returns : goal.returns
unfolding servers_all
returns c =
    written_7 _ _ _ _ _ _ _ _ _ _ _ _ _ _ _
    c.in_ok-push_number.ensures c.in_ok-push_sessions_head.ensures c.in_ok-push_sessions.ensures c.in_ok-push_reserved_head.ensures c.in_ok-push_reserved.ensures c.in_ok-push_silent_head.ensures c.in_ok-push_silent.ensures
