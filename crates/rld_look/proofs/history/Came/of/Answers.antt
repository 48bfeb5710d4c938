use Rattle.std.proofs.Common.{ap, ◌∙◌}
use Rattle.rld_counts.specs.declared.gate.Gate.TheVariants.{Auth, Acct, Ask}
use Rattle.rld_look.specs.History.{came_to}
use Rattle.rld_look.proofs.history.Came.of.Goals as goal

pub returns : goal.returns
returns c =
    let counts = c.args.counts.now in
    c.after-3.ensures
    ∙ ap (came_to counts Ask) (c.after-2.ensures ∙ ap (came_to counts Acct) (c.after.ensures ∙ ap (came_to counts Auth) c.new.ensures))
