use Rattle.std.proofs.Common.{sym, refl, ◌∙◌}
use Rattle.rsl_session.specs.Past.{looking_back}
use Rattle.rsl_rule.proofs.Standings.{taken}
use Rattle.rsl_rule.proofs.alive.outcome_of_unbound.Goals as goal

pub returns-in-Some : goal.returns-in-Some
returns-in-Some c =
    let is = c.chosen_reservation.ensures ∙ taken c.args.rules.now (looking_back c.args.history.now) c.args.event.now c.args.nas.now c.args.class c.args.before.now c.requires.stand_so in
    rw (sym is ∙ c.in-Some.is) refl

pub returns-then-branch : goal.returns-then-branch
returns-then-branch c =
    let is = c.chosen_reservation.ensures ∙ taken c.args.rules.now (looking_back c.args.history.now) c.args.event.now c.args.nas.now c.args.class c.args.before.now c.requires.stand_so in
    rw (sym is ∙ c.in_default.is, sym c.in_ok-can_open.ensures ∙ c.if-branch.true) refl

pub returns-else-branch : goal.returns-else-branch
returns-else-branch c =
    let is = c.chosen_reservation.ensures ∙ taken c.args.rules.now (looking_back c.args.history.now) c.args.event.now c.args.nas.now c.args.class c.args.before.now c.requires.stand_so in
    rw (sym is ∙ c.in_default.is, sym c.in_ok-can_open.ensures ∙ c.if-branch.false) refl
