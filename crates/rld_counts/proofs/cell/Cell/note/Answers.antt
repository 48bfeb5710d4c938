use Rattle.std.proofs.Common.{sym, subst}
use Rattle.rld_counts.specs.Cell.{CellSeen, HasCounted}
use Rattle.rld_counts.proofs.Noting.{cell_noted}
use Rattle.rld_counts.proofs.Sums.{one_counted}
use Rattle.rld_counts.proofs.cell.Cell.note.Goals as goal

pub returns-clause-noted : goal.returns-clause-noted
returns-clause-noted c = λ all was.
    cell_noted all c.args.counted
    (record { counts = c.self.inside.counts; clients = c.self.inside.clients.items; times = c.self.inside.times })
    (record { counts = c.note.new.self; clients = c.note_client.new.clients.items; times = c.note_time.new.times })
    c.note.ensures.noted (c.note_client.ensures.noted all) (c.note_time.ensures all)
    (subst (λ (cell : CellSeen). HasCounted all cell) (sym c.self.view_is) was)

pub invariant_of-self : goal.invariant_of-self
invariant_of-self c =
    one_counted
    (record { counts = c.self.inside.counts; clients = c.self.inside.clients.items; times = c.self.inside.times })
    (record { counts = c.note.new.self; clients = c.note_client.new.clients.items; times = c.note_time.new.times })
    c.args.counted
    (λ all was. cell_noted all c.args.counted _ _
    c.note.ensures.noted (c.note_client.ensures.noted all) (c.note_time.ensures all) was)
    c.self.invariant
