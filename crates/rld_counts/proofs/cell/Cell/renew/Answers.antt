use Rattle.std.proofs.Common.{refl, sym, subst}
use Rattle.rld_counts.specs.Cell.{CellSeen, HasCounted}
use Rattle.rld_counts.proofs.Noting.{cell_renewed}
use Rattle.rld_counts.proofs.Sums.{renewed_counted}
use Rattle.rld_counts.proofs.cell.Cell.renew.Goals as goal

pub returns-clause-anew : goal.returns-clause-anew
returns-clause-anew c = λ all was.
    cell_renewed all
    (record { counts = c.self.inside.counts; clients = c.self.inside.clients.items; times = c.self.inside.times })
    (record { counts = c.self.inside.counts; clients = c.into_each.result.items; times = c.self.inside.times })
    refl c.into_each.ensures.none refl
    (subst (λ (cell : CellSeen). HasCounted all cell) (sym c.self.view_is) was)

pub invariant_of-self : goal.invariant_of-self
invariant_of-self c =
    renewed_counted
    (record { counts = c.self.inside.counts; clients = c.self.inside.clients.items; times = c.self.inside.times })
    (record { counts = c.self.inside.counts; clients = c.into_each.result.items; times = c.self.inside.times })
    (λ all was. cell_renewed all _ _ refl c.into_each.ensures.none refl was)
    c.self.invariant
