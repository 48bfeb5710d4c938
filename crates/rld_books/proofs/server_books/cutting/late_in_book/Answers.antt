use Rattle.std.proofs.Common.{◌+◌, sum_by, ap, arith}
use Rattle.rsl_session.specs.declared.saved.SavedLink.{SavedLink}
use Rattle.rsl_session.specs.declared.kept.KeptAsk.{KeptAsk}
use Rattle.rsl_session.specs.declared.kept.KeptStop.{KeptStop}
use Rattle.rld_books.specs.Cut.{late}
use Rattle.rld_books.proofs.Cutting.{late_in_saved}
use Rattle.rld_books.proofs.server_books.cutting.late_in_book.Goals as goal

pub returns : goal.returns
returns c = λ few.
    let is = late_in_saved c.args.now c.args.kept.now in
    let links = ap (sum_by (λ (link : SavedLink). late c.args.now link.opened + late c.args.now link.touched)) c.as_slice.ensures.value in
    let asks = ap (sum_by (λ (ask : KeptAsk). late c.args.now ask.at)) c.as_slice-2.ensures.value in
    let stops = ap (sum_by (λ (stop : KeptStop). late c.args.now stop.at)) c.as_slice-3.ensures.value in
    omega (arith, few, is, links, asks, stops, c.late.ensures.late, c.late_links.ensures, c.late_asks.ensures, c.late_stops.ensures, c.saturating_add.ensures, c.saturating_add-2.ensures, c.saturating_add-3.ensures)
