use Rattle.std.proofs.Common.{ap, ◌∙◌}
use Rattle.rsl_session.specs.Same.{same_nas}
use Rattle.rsl_session.proofs.Callers.{nas_is_same}
use Rattle.rsl_links.proofs.servers.Servers.is_at.Goals as goal

pub returns : goal.returns
returns c =
    nas_is_same c.at.result.now c.args.nas.now c.is_same.result c.is_same.ensures.equal
    ∙ ap (λ one. same_nas one c.args.nas.now) c.at.ensures
