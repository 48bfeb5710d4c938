use Rattle.std.proofs.Common.{refl, sym, subst}
use Rattle.rld_counts.specs.Cell.{CellSeen, HasCounted}
use Rattle.rld_counts.proofs.Noting.{cell_joined_in_all}
use Rattle.rld_counts.proofs.Sums.{in_all_counted}
use Rattle.rld_counts.proofs.cell.Cell.add_in_all.Goals as goal

pub returns-clause-joined : goal.returns-clause-joined
returns-clause-joined c = λ all others was added.
    cell_joined_in_all all others
    (record { counts = c.self.inside.counts; clients = c.self.inside.clients.items; times = c.self.inside.times })
    (record { counts = c.other.inside.counts; clients = c.other.inside.clients.items; times = c.other.inside.times })
    (record { counts = c.add.new.self; clients = c.self.inside.clients.items; times = c.add-2.new.self })
    c.add.ensures.joined refl c.add-2.ensures.joined
    (subst (λ (cell : CellSeen). HasCounted all cell) (sym c.self.view_is) was)
    (subst (λ (cell : CellSeen). HasCounted others cell) (sym c.other.view_is) added)

pub invariant_of-self : goal.invariant_of-self
invariant_of-self c =
    in_all_counted
    (record { counts = c.self.inside.counts; clients = c.self.inside.clients.items; times = c.self.inside.times })
    (record { counts = c.other.inside.counts; clients = c.other.inside.clients.items; times = c.other.inside.times })
    (record { counts = c.add.new.self; clients = c.self.inside.clients.items; times = c.add-2.new.self })
    (λ all others was added. cell_joined_in_all all others _ _ _ c.add.ensures.joined refl c.add-2.ensures.joined was added)
    c.self.invariant c.other.invariant
