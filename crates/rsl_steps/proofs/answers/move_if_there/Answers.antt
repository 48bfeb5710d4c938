use Rattle.rsl_steps.proofs.answers.move_if_there.Goals as goal

pub move_at-requires-clause-takes : goal.move_at-requires-clause-takes
move_at-requires-clause-takes c = λ seen at. c.requires.each seen.setup
