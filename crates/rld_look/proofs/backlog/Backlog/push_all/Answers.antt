use Rattle.rld_look.proofs.Joined.{all_after, noted_after}
use Rattle.rld_look.proofs.backlog.Backlog.push_all.Goals as goal

pub loop-refusal-preserved : goal.loop-refusal-preserved
loop-refusal-preserved c =
    let noted = c.loop-refusal.invariant in (
      noted_after c.loop-refusal.yielded c.in-Some.refusal c.args.self.now c.loop-refusal.self c.push.new.self _ noted.0 c.push.ensures.noted,
      λ fates has. all_after fates c.loop-refusal.yielded c.in-Some.refusal c.push.new.self (c.push.ensures.all _ (noted.1 fates has)),
    )
