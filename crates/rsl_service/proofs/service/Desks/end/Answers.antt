use Rattle.std.proofs.Common.{◌∙◌}
use Rattle.rsl_service.proofs.Ends.{first_told, have_ends, told_if_there}
use Rattle.rsl_service.proofs.service.Desks.end.Goals as goal

pub returns-clause-ends : goal.returns-clause-ends
returns-clause-ends g c =
    let present = c.in_ok-present.present.items in
    let of = c.in_ok-present.ensures in
    let all = c.in-Ok-Ok-Ok-Ok in
    let there1 = rw all.is-1 at c.end_if_there-second.ensures.journal in
    let there2 = rw all.is-2 at c.end_if_there-third.ensures.journal in
    let there3 = rw all.is-3 at c.end_if_there-fourth.ensures.journal in
    let kept = c.self.invariant in
    have_ends c.self.inside.config g.L0.Tally.setup g.L1.Tally.setup g.L2.Tally.setup g.L3.Tally.setup
    g.L0.Tally.books g.L1.Tally.books g.L2.Tally.books g.L3.Tally.books all.journal0 all.journal1 all.journal2 all.journal3 present
    of.first of.second of.third of.fourth kept.1 kept.2 kept.3 kept.4 kept.8 kept.9 kept.10 kept.11 kept.0.settings.shards
    (there1 ∙ kept.5) (there2 ∙ kept.6) (there3 ∙ kept.7)
    (rw all.is-0 at c.end-first.ensures.end) (rw all.is-1 at c.end_if_there-second.ensures.end) (rw all.is-2 at c.end_if_there-third.ensures.end)
    (rw all.is-3 at c.end_if_there-fourth.ensures.end)

pub returns-clause-told0 : goal.returns-clause-told0
returns-clause-told0 g c =
    let all = c.in-Ok-Ok-Ok-Ok in
    first_told all.ledger0.total all.journal0 c.in_ok-present.present.items c.in_ok-present.ensures.first (rw all.is-0 at c.end-first.ensures.told)

pub returns-clause-told1 : goal.returns-clause-told1
returns-clause-told1 g c =
    let all = c.in-Ok-Ok-Ok-Ok in
    told_if_there all.ledger1 (λ ledger. ledger.total) 1 all.journal1 c.in_ok-present.present.items c.in_ok-present.ensures.second
    (rw all.is-1 at c.end_if_there-second.ensures.told)

pub returns-clause-told2 : goal.returns-clause-told2
returns-clause-told2 g c =
    let all = c.in-Ok-Ok-Ok-Ok in
    told_if_there all.ledger2 (λ ledger. ledger.total) 2 all.journal2 c.in_ok-present.present.items c.in_ok-present.ensures.third
    (rw all.is-2 at c.end_if_there-third.ensures.told)

pub returns-clause-told3 : goal.returns-clause-told3
returns-clause-told3 g c =
    let all = c.in-Ok-Ok-Ok-Ok in
    told_if_there all.ledger3 (λ ledger. ledger.total) 3 all.journal3 c.in_ok-present.present.items c.in_ok-present.ensures.fourth
    (rw all.is-3 at c.end_if_there-fourth.ensures.told)
