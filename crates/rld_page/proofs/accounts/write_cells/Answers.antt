use Rattle.std.proofs.Common.{◌≡◌}
use Rattle.rld_page.specs.Tables.{row_cells}
use Rattle.rld_values.proofs.Callers.{written_7}
use Rattle.rld_page.proofs.accounts.write_cells.Goals as goal

pub returns : goal.returns
unfolding row_cells
returns c =
    let held : c.from.result ≡ c.args.row.now.held = cc in
    let places : c.from-2.result ≡ c.args.row.now.places = cc in
    let held_again : c.from-3.result ≡ c.args.row.now.held = cc in
    let places_again : c.from-4.result ≡ c.args.row.now.places = cc in
    let live : c.from-5.result ≡ c.args.row.now.live = cc in
    let stale : c.from-6.result ≡ c.args.row.now.stale = cc in
    let reserved : c.from-7.result ≡ c.args.row.now.reserved = cc in
    written_7 _ _ _ _ _ _ _ _ _ _ _ _ _ _ _
    (rw (held, places) at c.in_ok-write_share.ensures) (rw held_again at c.in_ok-write_number.ensures) (rw places_again at c.in_ok-write_number-2.ensures) (rw live at c.in_ok-write_more.ensures) (rw stale at c.in_ok-write_more-2.ensures) (rw reserved at c.in_ok-write_more-3.ensures) c.in_ok-write_more-4.ensures
