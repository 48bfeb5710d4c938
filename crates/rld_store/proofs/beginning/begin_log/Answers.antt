use Rattle.std.proofs.Common.{◌∙◌, [], inl}
use Rattle.rld_log.specs.Recording.{IsSettled}
use Rattle.rld_store.proofs.Fronts.{empty_settled, front_begun, front_or_not, nothing_begun}
use Rattle.rld_store.proofs.beginning.begin_log.Goals as goal

pub returns-in_err-made-clause-crash : goal.returns-in_err-made-clause-crash
returns-in_err-made-clause-crash g c = λ told only empty ending premise left reached. inl (nothing_begun left (only ending left reached ∙ empty))

pub returns-in_err-check_empty-clause-crash : goal.returns-in_err-check_empty-clause-crash
returns-in_err-check_empty-clause-crash g c = λ told only empty ending premise left reached.
    inl (nothing_begun left (only ending left (c.check_empty.ensures.crash told ending left reached) ∙ empty))

pub returns-in_err-record_both-clause-crash : goal.returns-in_err-record_both-clause-crash
returns-in_err-record_both-clause-crash g c = λ told only empty ending premise left reached.
    let told_check = c.record_both.ensures.told told in
    let settled : IsSettled (g.L.Log.seen c.check_empty.new.log) (g.L.Log.may_leave c.check_empty.new.log) [] =
    empty_settled (g.L.Log.seen c.args.log.now) (g.L.Log.seen c.check_empty.new.log) (g.L.Log.may_leave c.args.log.now) (g.L.Log.may_leave c.check_empty.new.log)
    (c.check_empty.ensures.same told_check) empty only (c.check_empty.ensures.crash told_check) in
    front_or_not c.args.config.now c.args.header c.args.books.now c.in_ok-made.made.front.items c.in_ok-made.made.snapshot.items c.deref.result.now c.deref-2.result.now c.in_ok-made.made.whole left
    c.deref.ensures.value c.deref-2.ensures.value c.in_ok-made.ensures (c.record_both.ensures.crash told settled ending premise left reached)

pub returns-clause-begun : goal.returns-clause-begun
returns-clause-begun g c = λ told only.
    let told_check = c.record_both.ensures.told told in
    let settled : IsSettled (g.L.Log.seen c.check_empty.new.log) (g.L.Log.may_leave c.check_empty.new.log) [] =
    empty_settled (g.L.Log.seen c.args.log.now) (g.L.Log.seen c.check_empty.new.log) (g.L.Log.may_leave c.args.log.now) (g.L.Log.may_leave c.check_empty.new.log)
    (c.check_empty.ensures.same told_check) (c.in_ok-check_empty.ensures.empty told_check) only (c.check_empty.ensures.crash told_check) in
    front_begun c.args.config.now c.args.header c.args.books.now c.in_ok-made.made.front.items c.in_ok-made.made.snapshot.items c.deref.result.now c.deref-2.result.now c.in_ok-made.made.whole
    (g.L.Log.seen c.record_both.new.log) (g.L.Log.may_leave c.record_both.new.log) c.deref.ensures.value c.deref-2.ensures.value c.in_ok-made.ensures (c.in_ok-record_both.ensures.recorded told settled)

pub returns-clause-crash : goal.returns-clause-crash
returns-clause-crash g c = λ told only empty ending premise left reached.
    let told_check = c.record_both.ensures.told told in
    let settled : IsSettled (g.L.Log.seen c.check_empty.new.log) (g.L.Log.may_leave c.check_empty.new.log) [] =
    empty_settled (g.L.Log.seen c.args.log.now) (g.L.Log.seen c.check_empty.new.log) (g.L.Log.may_leave c.args.log.now) (g.L.Log.may_leave c.check_empty.new.log)
    (c.check_empty.ensures.same told_check) empty only (c.check_empty.ensures.crash told_check) in
    front_or_not c.args.config.now c.args.header c.args.books.now c.in_ok-made.made.front.items c.in_ok-made.made.snapshot.items c.deref.result.now c.deref-2.result.now c.in_ok-made.made.whole left
    c.deref.ensures.value c.deref-2.ensures.value c.in_ok-made.ensures (c.record_both.ensures.crash told settled ending premise left reached)
