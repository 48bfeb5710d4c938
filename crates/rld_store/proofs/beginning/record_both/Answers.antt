use Rattle.std.proofs.Common.{◌∷◌, [], inl}
use Rattle.rld_store.proofs.Fronts.{two_ways}
use Rattle.rld_store.proofs.beginning.record_both.Goals as goal

pub returns-in_err-record-clause-crash : goal.returns-in_err-record-clause-crash
returns-in_err-record-clause-crash g c = λ told settled ending premise left reached. inl (c.record.ensures.crash told [] settled ending premise left reached)

pub returns-in_err-record-2-clause-crash : goal.returns-in_err-record-2-clause-crash
returns-in_err-record-2-clause-crash g c = λ told settled ending premise left reached.
    two_ways c.args.first.now c.args.second.now left
    (c.record-2.ensures.crash told (c.args.first.now ∷ []) (c.in_ok-record.ensures.recorded (c.record-2.ensures.told told) [] settled) ending premise left reached)

pub returns-clause-recorded : goal.returns-clause-recorded
returns-clause-recorded g c = λ told settled.
    c.in_ok-record-2.ensures.recorded told (c.args.first.now ∷ []) (c.in_ok-record.ensures.recorded (c.record-2.ensures.told told) [] settled)

pub returns-clause-crash : goal.returns-clause-crash
returns-clause-crash g c = λ told settled ending premise left reached.
    two_ways c.args.first.now c.args.second.now left
    (c.record-2.ensures.crash told (c.args.first.now ∷ []) (c.in_ok-record.ensures.recorded (c.record-2.ensures.told told) [] settled) ending premise left reached)
