use Rattle.std.proofs.Common.{◌≡◌, ℕ, List, [], ◌∷◌, ◌++◌, ap, arith, drop, length, sym, take, ◌∙◌}
use Rattle.std.proofs.Math.Seq.{take-append_seam}
use Rattle.std.proofs.lemmas.List.{length-take, take_all, take_more}
use Rattle.rsl_shard.specs.Seen.{ShardSeen}
use Rattle.rsl_steps.proofs.Headline.{looked_back}
use Rattle.rsl_steps.proofs.Shards.{shards_ready}
use Rattle.rsl_steps.proofs.Snoc.{IsRun, run_start, run_more, taken-few}
use Rattle.rsl_steps.specs.Run.{steps_taken}
use Rattle.rsl_steps.proofs.answers.run.Goals as goal

pub loop-step-init : goal.loop-step-init
loop-step-init c = record {
  room = omega (arith, c.in_ok-answers.ensures.exact);
  len = c.in_ok-answers.ensures.len;
  so_far = rw c.in_ok-answers.ensures.items (run_start c.args.config.now c.args.boot c.in_ok-shards.shards.items (c.in_ok-shards.ensures.new c.args.boot));
}

pub take_step-answer-requires : goal.take_step-answer-requires
take_step-answer-requires c =
    let i = c.loop-step.step-index in
    let steps = take i c.args.steps.now in
    let few = taken-few [] steps c.loop-step.answers.items in
    let short = length-take i c.args.steps.now in
    rw c.as_mut_slice.ensures.value (shards_ready c.args.config.now c.args.boot (steps_taken [] steps c.loop-step.answers.items) c.loop-step.shards.items c.loop-step.invariant.so_far.shards (omega (arith, few, short, c.loop-step-test.true)))

-- what a whole slice of a list leaves in it
whole : (new old : List ShardSeen) (len : ℕ) → length new ≡ len → take len (new ++ drop (length new) old) ≡ new
whole new old len same = ap (λ (n : ℕ). take n (new ++ drop (length new) old)) (sym same) ∙ take-append_seam new (drop (length new) old)

pub loop-step-preserved : goal.loop-step-preserved
loop-step-preserved c =
    let i = c.loop-step.step-index in
    let more = take_more c.args.steps.now i c.step-item.result c.loop-step-test.true in
    let new = c.take_step-answer.new.shards in
    let before : IsRun c.args.config.now c.args.boot [] (take i c.args.steps.now) c.loop-step.answers.items c.as_mut_slice.result.now =
    rw c.as_mut_slice.ensures.value c.loop-step.invariant.so_far in
    let after : IsRun c.args.config.now c.args.boot [] (take i c.args.steps.now ++ c.step-item.result ∷ []) (c.loop-step.answers.items ++ c.take_step-answer.result ∷ []) new =
    run_more c.args.config.now c.args.boot [] (take i c.args.steps.now) c.loop-step.answers.items c.step-item.result c.take_step-answer.result c.as_mut_slice.result.now new before
    (c.take_step-answer.ensures _ before.shards) in
    let same : length new ≡ c.loop-step.shards.len =
    omega (arith, after.shards.count, before.shards.count, ap length c.as_mut_slice.ensures.value, c.loop-step.shards.ok.0) in
    record {
      room = omega (arith, c.push_reserved.ensures.capacity, c.loop-step.invariant.room);
      len = omega (arith, c.push_reserved.ensures.len, c.loop-step.invariant.len);
      so_far = rw (more, c.push_reserved.ensures.items, ← c.step-item.is, whole new c.loop-step.shards.items c.loop-step.shards.len same) after;
    }

pub returns-clause-answers : goal.returns-clause-answers
returns-clause-answers c =
    let run = rw (take_all c.loop-step.step-index c.args.steps.now c.loop-step-test.false) at c.loop-step.invariant.so_far in
    looked_back c.books_answer_as_looking_back.ensures c.args.config.now c.args.boot [] c.args.steps.now c.loop-step.answers.items run.answers

pub returns-clause-books : goal.returns-clause-books
returns-clause-books c =
    let run = rw (take_all c.loop-step.step-index c.args.steps.now c.loop-step-test.false) at c.loop-step.invariant.so_far in
    λ account entry there. c.shards_obey_the_rule.ensures c.args.config.now c.args.boot account entry _ _ c.in_ok-shards.ensures.limits run.shards there

pub returns-clause-by_books : goal.returns-clause-by_books
returns-clause-by_books c =
    let run = rw (take_all c.loop-step.step-index c.args.steps.now c.loop-step-test.false) at c.loop-step.invariant.so_far in
    run.answers

pub returns-clause-shards : goal.returns-clause-shards
returns-clause-shards c =
    let run = rw (take_all c.loop-step.step-index c.args.steps.now c.loop-step-test.false) at c.loop-step.invariant.so_far in
    run.shards
