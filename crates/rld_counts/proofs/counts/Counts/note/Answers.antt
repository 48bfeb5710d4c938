use Rattle.std.proofs.Common.{◌≢◌, ℕ, List, get_or, ap, ◌∙◌}
use Rattle.std.proofs.lemmas.List.{get_or-set_other}
use Rattle.rld_counts.specs.Fates.{fate_number}
use Rattle.rld_counts.proofs.Counting.{counts_push, numbers_differ}
use Rattle.rld_counts.proofs.counts.Counts.note.Goals as goal

pub returns-clause-others : goal.returns-clause-others
returns-clause-others c = λ other differs.
    let apart : fate_number other ≢ c.number.result = λ e. numbers_differ c.args.fate other differs (e ∙ c.number.ensures.number) in
    ap (λ (l : List ℕ). get_or l (fate_number other) 0) c.note.ensures
    ∙ get_or-set_other c.self.inside.counters c.number.result (fate_number other) _ 0 apart
    ∙ ap (λ (l : List ℕ). get_or l (fate_number other) 0) c.self.view_is

pub returns-clause-noted : goal.returns-clause-noted
returns-clause-noted c = λ ends was.
    counts_push c.args.fate c.number.result ends c.self.inside.counters c.note.new.counters
    c.number.ensures.number c.number.ensures.below (c.self.view_is ∙ was) c.note.ensures
