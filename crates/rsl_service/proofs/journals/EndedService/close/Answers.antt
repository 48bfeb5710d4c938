use Rattle.std.proofs.Common.{◌≡◌, ap, arith, subst}
use Rattle.std.proofs.lemmas.Result.{err_from_is_err_and}
use Rattle.rsl_service.specs.Closed.{EndedSeen, IsClosedBy, IsFaultOf, IsRecordSettled, count_in, end_of}
use Rattle.rsl_service.specs.Receipts.{receipts_of}
use Rattle.rsl_record.specs.declared.close_fault.CloseFault.TheVariants.{NoMemory}
use Rattle.rsl_service.proofs.Ends.{all_counted, all_given, closes, faults, refused, same_total, seen_settled}
use Rattle.rsl_service.proofs.journals.EndedService.close.Goals as goal

pub returns-in_err-settle-clause-err : goal.returns-in_err-settle-clause-err
returns-in_err-settle-clause-err g c =
    let p = err_from_is_err_and c.from_residual.result c.from_residual.ensures.1 in
    rw (p.1, p.2)
    (subst (λ (ended : EndedSeen). IsFaultOf ended (receipts_of c.args.passes.items) c.args.segments.items c.in_err-settle.field-0.0) c.self.view_is
    (faults (record { config = c.self.inside.config; opened = c.self.inside.opened; present = c.self.inside.present.items })
    c.args.passes.items c.as_slice.result.now c.args.segments.items c.as_slice-2.result.now
    c.as_slice-3.result.now c.in_err-settle.field-0.0 c.as_slice.ensures.value c.as_slice-2.ensures.value
    c.as_slice-3.ensures.value c.in_err-settle.ensures.fault c.in_err-settle.ensures.missing c.in_err-settle.ensures.exact))

pub returns-clause-config : goal.returns-clause-config
returns-clause-config g c = ap (λ (ended : EndedSeen). ended.config) c.self.view_is

pub returns-clause-opened : goal.returns-clause-opened
returns-clause-opened g c =
    all_given c.self.inside.opened c.self.inside.config c.args.passes.items c.as_slice.result.now _ c.as_slice.ensures.value
    c.in_ok-settle.ensures.settled

pub returns-clause-closed : goal.returns-clause-closed
returns-clause-closed g c =
    let config = c.self.inside.config in
    let passes = receipts_of c.args.passes.items in
    let given = c.args.segments.items in
    let present = c.self.inside.present.items in
    let ended : EndedSeen = record { config = config; opened = c.self.inside.opened; present = present } in
    let kept = c.self.invariant in
    let ledgers = c.self.inside.ledgers in
    let settled : IsRecordSettled ended passes given =
    seen_settled config c.self.inside.opened c.args.passes.items c.as_slice.result.now given c.as_slice-2.result.now present c.as_slice-3.result.now
    c.as_slice.ensures.value c.as_slice-2.ensures.value c.as_slice-3.ensures.value c.in_ok-settle.ensures.settled in
    let told0 : end_of 0 present ≡ count_in passes 0 =
    omega (arith, kept.10, c.audit.ensures.ledger0, c.gather.ensures.amount0, kept.3) in
    subst (λ (ended : EndedSeen). IsClosedBy ended passes given c.in_ok-segments.segments.items) c.self.view_is
    (closes ended passes given c.in_ok-segments.segments.items kept.0
    (all_counted config passes present kept.1.settings.shards told0
    (λ within. omega (arith, same_total ledgers.ledger1 (λ ledger. ledger.total) 1 config.settings.shards _ _ kept.7 kept.11 c.audit.ensures.ledger1 within, c.gather.ensures.amount1, kept.4))
    (λ within. omega (arith, same_total ledgers.ledger2 (λ ledger. ledger.total) 2 config.settings.shards _ _ kept.8 kept.12 c.audit.ensures.ledger2 within, c.gather.ensures.amount2, kept.5))
    (λ within. omega (arith, same_total ledgers.ledger3 (λ ledger. ledger.total) 3 config.settings.shards _ _ kept.9 kept.13 c.audit.ensures.ledger3 within, c.gather.ensures.amount3, kept.6)))
    settled c.in_ok-segments.ensures.same c.in_ok-segments.ensures.by_shard)

pub returns-in_err-segments-clause-err : goal.returns-in_err-segments-clause-err
returns-in_err-segments-clause-err g c =
    let passes = receipts_of c.args.passes.items in
    let given = c.args.segments.items in
    let ended : EndedSeen = record { config = c.self.inside.config; opened = c.self.inside.opened; present = c.self.inside.present.items } in
    let settled : IsRecordSettled ended passes given =
    seen_settled c.self.inside.config c.self.inside.opened c.args.passes.items c.as_slice.result.now given c.as_slice-2.result.now c.self.inside.present.items c.as_slice-3.result.now
    c.as_slice.ensures.value c.as_slice-2.ensures.value c.as_slice-3.ensures.value c.in_ok-settle.ensures.settled in
    let p = err_from_is_err_and c.from_residual-in_err-segments.result c.from_residual-in_err-segments.ensures.1 in
    rw (p.1, p.2)
    (subst (λ (ended : EndedSeen). IsFaultOf ended passes given NoMemory) c.self.view_is (refused ended passes given settled))
