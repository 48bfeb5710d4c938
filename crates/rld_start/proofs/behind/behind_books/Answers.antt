use Rattle.rld_start.proofs.behind.behind_books.Goals as goal

pub returns : goal.returns
returns c = (c.clock.result, (c.clock.ensures, c.behind.ensures))
