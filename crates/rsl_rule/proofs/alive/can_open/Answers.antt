use Rattle.std.proofs.Common.{ap, map, ◌∙◌}
use Rattle.rsl_session.specs.Past.{looking_back}
use Rattle.rsl_session.specs.Held.{held_before}
use Rattle.rsl_rule.specs.declared.holding.HeldLink.{HeldLink}
use Rattle.rsl_rule.proofs.Standings.{numbers, room}
use Rattle.rsl_rule.proofs.alive.can_open.Goals as goal

pub returns : goal.returns
returns c =
    let past = looking_back c.args.history.now in
    let links = c.deref.ensures.value ∙ c.in_ok-links.ensures.numbers ∙ ap (map (λ (one : HeldLink). one.link)) c.requires.stand_so ∙ numbers past (held_before c.args.rules.now past c.args.event.now) in
    let each = c.deref-2.ensures.value ∙ rw (c.in_ok-bundles.ensures.bundles, c.in_ok-bundle_of_act.ensures) at c.in_ok-push.ensures.items in
    room c.args.rules.now past c.args.event.now c.deref.result.now c.deref-2.result.now c.places_taken.result links each c.places_taken.ensures
