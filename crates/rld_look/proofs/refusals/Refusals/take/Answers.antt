use Rattle.std.proofs.Common.{◌≡◌, length, arith, sym, subst}
use Rattle.rld_look.specs.Backlog.{IsOfBacklogs}
use Rattle.rld_look.proofs.Joined.{of_all, of_more, of_none}
use Rattle.rld_look.proofs.refusals.Refusals.take.Goals as goal

pub loop-backlog-init : goal.loop-backlog-init
loop-backlog-init g c = subst (IsOfBacklogs 0) (sym c.new-all.ensures.none) of_none

pub loop-backlog-preserved : goal.loop-backlog-preserved
loop-backlog-preserved g c = of_more _ _ _ _ c.loop-backlog.invariant c.join.ensures.joined

pub returns : goal.returns
returns g c =
    let all : c.loop-backlog.backlog-index ≡ length c.args.self.now.backlogs.items = grind arith in
    of_all _ _ c.loop-backlog.all _ _ c.loop-backlog.invariant all c.take.ensures.waited c.take.ensures.left_out
