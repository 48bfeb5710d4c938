use Rattle.std.proofs.Common.{◌≡◌, ◌++◌, take}
use Rattle.std.specs.List.{flat_map}
use Rattle.rld_page.specs.Tables.{socket_row}
use Rattle.rld_page.proofs.sockets.write_rows.Given as goal

-- the rows of the sockets that were looked at
abbrev pub invariant-loop-socket : goal.invariant-loop-socket
invariant-loop-socket l = l.html ≡ l.fn.html ++ flat_map socket_row (take l.socket-index l.sockets)
