use Rattle.std.proofs.Common.{◌+◌, ◌==◌, length, Err, ap, ◌∙◌, rules}
use Rattle.std.proofs.lemmas.Iterator.Consumers.{YieldsList-at, YieldsList-from_enumerate}
use Rattle.std.proofs.lemmas.Iterator.Splits.{YieldsList-from_slice_split}
use Rattle.std.proofs.lemmas.List.{length_push}
use borrow.Author.Tests.{tests}
use Rattle.rsl_script.specs.Reads.{script_fault_at}
use Rattle.rsl_script.specs.Words.{text_lines}
use Rattle.rsl_script.proofs.Taken.{fault_named, line_turn, lines_end, script_read, script_refused, stands_more}
use Rattle.rsl_script.proofs.script.Script.read.Goals as goal

pub returns-clause-script : goal.returns-clause-script
returns-clause-script c =
    script_read c.args.text.now _ _ c.loop-index.invariant
    (lines_end c.args.text.now c.loop-index.yielded _ c.loop-index.yielded_by _ _ c.in-None.is c.next.ensures.steps
    (YieldsList-at c.into_iter-index-iterator.ensures.into_iter_gives
    (YieldsList-from_enumerate
    (YieldsList-at c.enumerate-index-items.ensures.source (YieldsList-from_slice_split _ (λ octet. octet == 10) c.args.text.now c.split.ensures.rest c.split.ensures.done c.split.ensures.closure (λ x b q k. search (rules, tests))))
    c.enumerate-index-items.ensures.count)))

pub loop-index-preserved : goal.loop-index-preserved
loop-index-preserved c =
    let turn =
    line_turn c.args.text.now c.loop-index.yielded _ c.loop-index.yielded_by _ _ (c.in-Some.index, c.in-Some.line) c.in-Some.is c.next.ensures.steps
    (YieldsList-at c.into_iter-index-iterator.ensures.into_iter_gives
    (YieldsList-from_enumerate
    (YieldsList-at c.enumerate-index-items.ensures.source (YieldsList-from_slice_split _ (λ octet. octet == 10) c.args.text.now c.split.ensures.rest c.split.ensures.done c.split.ensures.closure (λ x b q k. search (rules, tests))))
    c.enumerate-index-items.ensures.count))
    in
    rw (length_push c.loop-index.yielded (c.in-Some.index, c.in-Some.line))
    (stands_more (text_lines c.args.text.now) (length c.loop-index.yielded) c.in-Some.line.now _ _ c.loop-index.invariant turn.0 turn.2 c.in_default.ensures.taken)

pub returns-in-Err-clause-line : goal.returns-in-Err-clause-line
returns-in-Err-clause-line c =
    let turn =
    line_turn c.args.text.now c.loop-index.yielded _ c.loop-index.yielded_by _ _ (c.in-Some.index, c.in-Some.line) c.in-Some.is c.next.ensures.steps
    (YieldsList-at c.into_iter-index-iterator.ensures.into_iter_gives
    (YieldsList-from_enumerate
    (YieldsList-at c.enumerate-index-items.ensures.source (YieldsList-from_slice_split _ (λ octet. octet == 10) c.args.text.now c.split.ensures.rest c.split.ensures.done c.split.ensures.closure (λ x b q k. search (rules, tests))))
    c.enumerate-index-items.ensures.count))
    in
    fault_named c.args.text.now (length c.loop-index.yielded + 1) c.in-Err.fault c.at.result (c.at.ensures ∙ ap (λ index. script_fault_at (index + 1) c.in-Err.fault) turn.1)
    (λ wrong. script_refused c.args.text.now (length c.loop-index.yielded) c.in-Some.line.now _ c.loop-index.invariant turn.0 turn.2 (c.in-Err.ensures.wrong (ap Err wrong)))
