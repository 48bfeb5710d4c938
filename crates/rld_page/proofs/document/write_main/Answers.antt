use Rattle.rld_page.specs.Page.{main_of}
use Rattle.rld_values.proofs.Callers.{written_9}
use Rattle.rld_page.proofs.document.write_main.Goals as goal

pub returns : goal.returns
unfolding main_of
returns c = λ dates are.
    written_9 _ _ _ _ _ _ _ _ _ _ _ _ _ _ _ _ _ _ _
    c.in_ok-markup.ensures c.in_ok-write_numbers.ensures c.in_ok-write_charts.ensures c.in_ok-write_accounts.ensures c.in_ok-write_causes.ensures (c.in_ok-write_servers.ensures dates are) (c.in_ok-write_refused.ensures dates are) c.in_ok-write_sockets.ensures c.in_ok-markup-2.ensures
