use Rattle.std.proofs.Common.{sym, ◌∙◌}
use Rattle.rld_look.proofs.Joining.{put_after, put_with}
use Rattle.rld_look.proofs.servers.push_server.Goals as goal

pub returns-in_ok-push-in-Some : goal.returns-in_ok-push-in-Some
returns-in_ok-push-in-Some c =
    put_with _ _ _ _ _ _ c.in-Some.ensures.items (sym c.is_same.ensures ∙ c.if-is_same.true) c.with_links.ensures
    c.in_ok-push-in-Some.ensures.items

pub returns-in_ok-push-in-Some-3 : goal.returns-in_ok-push-in-Some-3
returns-in_ok-push-in-Some-3 c =
    put_after _ _ _ _ _ _ c.in-Some.ensures.items (sym c.is_same.ensures ∙ c.if-is_same.false)
    c.in_ok-push-in-Some-2.ensures.items c.in_ok-push-in-Some-3.ensures.items
