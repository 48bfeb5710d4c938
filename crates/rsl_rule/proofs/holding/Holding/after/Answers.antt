use Rattle.std.proofs.Common.{sym, ◌∙◌}
use Rattle.rsl_session.specs.Past.{looking_back}
use Rattle.rsl_rule.proofs.Carried.{carried_quiet, carried_opened, clock_next, furthest_next}
use Rattle.rsl_rule.proofs.holding.Holding.after.Goals as goal
use Rattle.rsl_rule.proofs.holding.Holding.after.Goals.{then-opens_link+in_ok-standing+in_ok-push, else-opens_link}

pub returns : goal.returns
returns c =
    let past = looking_back c.args.history.now in
    record {
      each = elim c.if-opens_link.branch [
        | then-opens_link+in_ok-standing+in_ok-push w ↦
            let opened = carried_opened c.args.rules.now c.args.history.now c.args.entry.now w.in_ok-standing.standing (sym c.opens_link.ensures ∙ w.if-opens_link.true) w.in_ok-standing.ensures in
            rw w.links-is (w.in_ok-push.ensures.items ∙ rw c.in_ok-links.ensures (sym opened))
        | else-opens_link w ↦
            let quiet = carried_quiet c.args.rules.now past c.args.entry.now (sym c.opens_link.ensures ∙ w.if-opens_link.false) in
            rw w.links-is (c.in_ok-links.ensures ∙ sym quiet)
      ];
      now = cc (clock_next past c.args.entry.now);
      greatest = cc (furthest_next past c.args.entry.now);
    }
