use Rattle.std.proofs.Common.{◌∙◌, ◌+◌, ◌++◌, ap, ℕ, take, drop, arith}
use Rattle.std.specs.String.{string_bytes}
use Rattle.rsl_replay.specs.Lines.{line_text, printed_lines}
use Rattle.rsl_replay.specs.declared.word.Word.{Word}
use Rattle.rsl_replay.proofs.LineLaws.{left_has, left_more, left_none}
use Rattle.rsl_replay.proofs.lines.lines_of.Goals as goal

pub split_at-requires : goal.split_at-requires
split_at-requires c =
    let has = left_has c.args.config.now c.args.lines.now c.loop-index.index c.index-lines-index.result c.loop-index.rest.now _ _ c.loop-index-test.true c.index-lines-index.is c.loop-index.invariant in
    omega (arith, has, c.step_count.ensures.count)

pub loop-index-preserved : goal.loop-index-preserved
loop-index-preserved c =
    let all = printed_lines c.args.config.now c.args.lines.now c.args.answers.now in
    let rest = c.loop-index.rest.now in
    let before = string_bytes c.loop-index.text in
    let count = c.step_count.ensures.count in
    left_more c.args.config.now c.args.lines.now c.loop-index.index c.index-lines-index.result rest c.split_at.result.0.now c.split_at.result.1.now all before (string_bytes c.write_line.new.text)
    c.loop-index-test.true c.index-lines-index.is
    (c.split_at.ensures.front ∙ ap (λ (n : ℕ). take n rest) count)
    (c.split_at.ensures.back ∙ ap (λ (n : ℕ). drop n rest) count)
    (omega (arith, c.split_at.ensures.back_len, count))
    (c.in_ok-write_line.ensures ∙ ap (λ (w : Word). before ++ line_text (c.loop-index.index + 1) w) c.word_of.ensures)
    c.loop-index.invariant

pub returns : goal.returns
returns c = left_none c.args.config.now c.args.lines.now c.loop-index.index c.loop-index.rest.now _ _ (omega arith) c.loop-index.invariant
