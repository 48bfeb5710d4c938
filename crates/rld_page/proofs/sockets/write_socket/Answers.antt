use Rattle.std.proofs.Common.{◌≡◌}
use Rattle.rld_page.specs.Tables.{socket_row}
use Rattle.rld_values.proofs.Callers.{written_7}
use Rattle.rld_page.proofs.sockets.write_socket.Goals as goal

pub returns : goal.returns
unfolding socket_row
returns c =
    let port : c.from.result ≡ c.args.socket.now.port = cc in
    written_7 _ _ _ _ _ _ _ _ _ _ _ _ _ _ _
    c.in_ok-markup.ensures (rw port at c.in_ok-number.ensures) c.in_ok-markup-2.ensures c.in_ok-grouped.ensures c.in_ok-markup-3.ensures c.in_ok-grouped-2.ensures c.in_ok-markup-4.ensures
