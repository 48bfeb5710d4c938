use Rattle.std.proofs.Common.{◌<◌, List, [], ℕ, get_or, length, sym, ap, subst, ◌∙◌}
use Rattle.rld_counts.specs.Cell.{AreJoined, CellSeen, HasCounted}
use Rattle.rld_counts.proofs.Noting.{cell_joined}
use Rattle.rld_counts.proofs.Sums.{both_counted}
use Rattle.rld_counts.proofs.cell.Cell.add_all.Goals as goal

pub returns-clause-joined : goal.returns-clause-joined
returns-clause-joined c = λ all others was added.
    cell_joined all others
    (record { counts = c.self.inside.counts; clients = c.self.inside.clients.items; times = c.self.inside.times })
    (record { counts = c.other.inside.counts; clients = c.other.inside.clients.items; times = c.other.inside.times })
    (record { counts = c.add.new.self; clients = c.add_clients.new.clients.items; times = c.add-2.new.self })
    c.add.ensures.joined c.add_clients.ensures.len
    (ap (λ (cell : CellSeen). length cell.clients) c.other.view_is ∙ c.requires ∙ sym (ap (λ (cell : CellSeen). length cell.clients) c.self.view_is))
    (subst (λ (l : List (List ℕ)). (client : ℕ) → client < length c.add_clients.new.clients.items
    → AreJoined (get_or c.self.inside.clients.items client []) (get_or l client []) (get_or c.add_clients.new.clients.items client []))
    c.as_slice.ensures.value c.add_clients.ensures.joined)
    c.add-2.ensures.joined
    (subst (λ (cell : CellSeen). HasCounted all cell) (sym c.self.view_is) was)
    (subst (λ (cell : CellSeen). HasCounted others cell) (sym c.other.view_is) added)

pub invariant_of-self : goal.invariant_of-self
invariant_of-self c =
    both_counted
    (record { counts = c.self.inside.counts; clients = c.self.inside.clients.items; times = c.self.inside.times })
    (record { counts = c.other.inside.counts; clients = c.other.inside.clients.items; times = c.other.inside.times })
    (record { counts = c.add.new.self; clients = c.add_clients.new.clients.items; times = c.add-2.new.self })
    (λ all others was added. cell_joined all others _ _ _
    c.add.ensures.joined c.add_clients.ensures.len
    (ap (λ (cell : CellSeen). length cell.clients) c.other.view_is ∙ c.requires ∙ sym (ap (λ (cell : CellSeen). length cell.clients) c.self.view_is))
    (subst (λ (l : List (List ℕ)). (client : ℕ) → client < length c.add_clients.new.clients.items
    → AreJoined (get_or c.self.inside.clients.items client []) (get_or l client []) (get_or c.add_clients.new.clients.items client []))
    c.as_slice.ensures.value c.add_clients.ensures.joined)
    c.add-2.ensures.joined was added)
    c.self.invariant c.other.invariant
