use Rattle.std.proofs.Common.{◌≡◌, ◌-◌}
use Rattle.rld_page.specs.Tables.{touch_cells}
use Rattle.rld_values.proofs.Callers.{written_5}
use Rattle.rld_page.proofs.servers.write_touch.Goals as goal

pub returns : goal.returns
unfolding touch_cells
returns c = λ dates are.
    let since : c.saturating_sub.result ≡ c.args.now - c.args.last = cc in
    written_5 _ _ _ _ _ _ _ _ _ _ _
    c.in_ok-markup.ensures (c.in_ok-moment.ensures dates are) c.in_ok-markup-2.ensures (rw (since) at c.in_ok-grouped.ensures) c.in_ok-markup-3.ensures
