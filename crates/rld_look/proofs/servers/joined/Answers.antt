use Rattle.std.proofs.Common.{ap, ◌∙◌, sym, List, []}
use Rattle.rld_look.specs.AccessServers.{with_server}
use Rattle.rld_look.specs.declared.servers.AccessServerLook.{AccessServerLook}
use Rattle.rld_look.proofs.Joining.{joined_more}
use Rattle.rld_look.proofs.servers.joined.Goals as goal

pub loop-server-preserved : goal.loop-server-preserved
loop-server-preserved c =
    c.in_ok-push_server.ensures
    ∙ ap (λ (rows : List AccessServerLook). with_server rows c.in-Some.server) c.loop-server.invariant
    ∙ sym (joined_more [] c.loop-server.yielded c.in-Some.server)
