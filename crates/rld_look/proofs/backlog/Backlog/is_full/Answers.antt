use Rattle.std.proofs.lemmas.Bool.{leb-false, leb-true}
use Rattle.rld_look.proofs.Noting.{lines_few, lines_full}
use Rattle.rld_look.proofs.backlog.Backlog.is_full.Goals as goal

pub returns-clause-full : goal.returns-clause-full
returns-clause-full c = λ is.
    lines_full c.args.fate c.count.result c.self.inside.lines _ c.args.self.now c.self.invariant c.self.view_is c.count.ensures (leb-true _ _ is)

pub returns-clause-few : goal.returns-clause-few
returns-clause-few c = λ is.
    lines_few c.args.fate c.count.result c.self.inside.lines _ c.args.self.now c.self.invariant c.self.view_is c.count.ensures (leb-false _ _ is)
