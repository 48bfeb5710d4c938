use Rattle.rld_text.specs.Metrics.{client_front}
use Rattle.rld_values.proofs.Callers.{written_3}
use Rattle.rld_text.proofs.datagrams.push_client_front.Goals as goal

pub returns : goal.returns
unfolding client_front
returns c =
    written_3 _ _ _ _ _ _ _
    c.in_ok-push_text.ensures c.in_ok-push_dotted.ensures c.in_ok-push_text-2.ensures
