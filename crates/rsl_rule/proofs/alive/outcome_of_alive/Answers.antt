use Rattle.std.proofs.Common.{sym, refl, ◌∙◌}
use Rattle.rsl_session.specs.Past.{looking_back}
use Rattle.rsl_rule.proofs.Standings.{bound}
use Rattle.rsl_rule.proofs.alive.outcome_of_alive.Goals as goal

pub returns-in-Some : goal.returns-in-Some
returns-in-Some c =
    let is = c.link_of_session.ensures ∙ bound c.args.rules.now (looking_back c.args.history.now) c.args.event.now c.args.session.now c.deref.result.now (c.deref.ensures.value ∙ c.in_ok-before.ensures.links) in
    rw (sym is ∙ c.in-Some.is) refl

pub returns-then-branch : goal.returns-then-branch
returns-then-branch c =
    let is = c.link_of_session.ensures ∙ bound c.args.rules.now (looking_back c.args.history.now) c.args.event.now c.args.session.now c.deref.result.now (c.deref.ensures.value ∙ c.in_ok-before.ensures.links) in
    rw (sym is ∙ c.in_default.is, sym c.in_ok-is_session_closed.ensures ∙ c.if-branch.true) refl

pub returns : goal.returns
returns c =
    let is = c.link_of_session.ensures ∙ bound c.args.rules.now (looking_back c.args.history.now) c.args.event.now c.args.session.now c.deref.result.now (c.deref.ensures.value ∙ c.in_ok-before.ensures.links) in
    rw (sym is ∙ c.in_default.is, sym c.in_ok-is_session_closed.ensures ∙ c.if-branch.false) c.outcome_of_unbound.ensures
