use Rattle.rld_lives.proofs.ending.crashed.Goals as goal

pub returns-clause-is_left : goal.returns-clause-is_left
returns-clause-is_left g c = λ told. record { before = c.args.log; left = c.restart.ensures.left told; settled = c.restart.ensures.settled told }
