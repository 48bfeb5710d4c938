use Rattle.std.proofs.Common.{ap, ◌∙◌}
use Rattle.rsl_session.specs.Same.{same_nas}
use Rattle.rsl_session.proofs.Callers.{nas_is_same}
use Rattle.rsl_links.proofs.servers.Servers.is_as.Goals as goal

pub returns : goal.returns
returns c =
    nas_is_same c.args.nas.now c.at.result.now c.is_same.result c.is_same.ensures.equal
    ∙ ap (λ other. same_nas c.args.nas.now other) c.at.ensures
