use Rattle.std.proofs.Common.{refl}
use Rattle.rld_books.proofs.Cutting.{cut_saved_link}
use Rattle.rld_books.proofs.server_books.cutting.cut_link.Goals as goal

pub returns : goal.returns
returns c = cut_saved_link c.args.now c.args.link.now _ _ _ c.earlier-link.ensures c.earlier-link-2.ensures refl
