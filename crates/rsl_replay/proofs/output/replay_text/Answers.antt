use Rattle.std.proofs.Common.{◌++◌, List, [], ap, subst, sym, ◌∙◌}
use Rattle.rsl_replay.proofs.output.replay_text.Goals as goal
use Rattle.rsl_replay.specs.Lines.{printed_lines}
use Rattle.rsl_replay.specs.Replay.{replay_boot}
use Rattle.rsl_replay.specs.Report.{rows_after}
use Rattle.rsl_replay.specs.Shards.{AreShardsAfter}
use Rattle.rsl_replay.specs.Steps.{steps_of_lines}
use Rattle.rsl_record.specs.Table.{table}
use Rattle.rsl_script.specs.Script.{contents}
use Rattle.rsl_steps.specs.Run.{AreAnswers, steps_taken}
use Rattle.rsl_steps.specs.declared.step.Step.{Step}

pub returns-clause-replayed : goal.returns-clause-replayed
returns-clause-replayed c =
    let config = c.in_ok-config.config in
    let answers = c.in_ok-ran.ran.answers.items in
    let events = c.as_slice-lines.ensures.value in
    let steps = c.as_slice.ensures.value ∙ c.in_ok-steps.ensures.steps ∙ ap (steps_of_lines config replay_boot) events in
    let before = steps_taken [] c.as_slice.result.now answers in
    let after : AreShardsAfter config replay_boot before c.in_ok-ran.ran.shards.items = record { moved = c.in_ok-ran.ensures.shards; books = c.in_ok-ran.ensures.books } in
    let rows = c.in_ok-rows.ensures.rows replay_boot before (subst (AreShardsAfter config replay_boot before) (sym c.as_slice-3.ensures.value) after)
    ∙ ap (λ (given : List Step). rows_after config replay_boot (steps_taken [] given answers) 0 config.accounts) steps in
    let report = c.in_ok-report.ensures ∙ ap (table config) (c.as_slice-4.ensures.value ∙ rows) in
    let lines = c.in_ok-lines.ensures ∙ (λ k. printed_lines config (events k) (c.as_slice-2.ensures.value k)) in
    record {
      script = contents c.in_ok-script.script;
      config = config;
      answers = answers;
      short = c.requires;
      read = c.in_ok-script.ensures.script;
      made = c.in_ok-config.ensures.ok;
      answered = subst (λ (given : List Step). AreAnswers config replay_boot [] given answers) steps c.in_ok-ran.ensures.answers;
      lines_and_report = λ k. lines k ++ report k;
    }
