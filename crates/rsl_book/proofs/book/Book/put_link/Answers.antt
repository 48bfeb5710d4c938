use Rattle.std.proofs.Common.{◌∷◌, [], ◌++◌, ◌∙◌, ap}
use Rattle.rsl_session.specs.Book.{BookLink}
use Rattle.rsl_book.proofs.PutBack.{as_saved, full_with, with_links}
use Rattle.rsl_book.proofs.book.Book.put_link.Goals as goal

pub returns-clause-put : goal.returns-clause-put
returns-clause-put c fits =
    c.open_touched.ensures.put fits
    ∙ ap (λ (link : BookLink). with_links c.args.self.now (c.args.self.now.book.links ++ link ∷ []))
    (as_saved c.args.saved.now c.in_ok-nas.nas c.in_ok-holder.holder c.in_ok-bundle.bundle c.in_ok-station.station c.in_ok-nas.ensures.copy c.in_ok-holder.ensures c.in_ok-bundle.ensures.copy c.in_ok-station.ensures.copy)

pub returns-clause-full : goal.returns-clause-full
returns-clause-full c full =
    full_with c.args.self.now.rules.ports c.args.self.now.rules.places c.args.self.now.book.links c.args.saved.now c.in_ok-nas.nas c.in_ok-bundle.bundle
    c.in_ok-nas.ensures.copy c.in_ok-bundle.ensures.copy (c.open_touched.ensures.full full)
