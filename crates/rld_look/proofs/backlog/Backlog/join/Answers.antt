use Rattle.std.proofs.Common.{◌+◌, ap, ◌∙◌}
use Rattle.rld_counts.specs.Counts.{count_in}
use Rattle.rld_counts.specs.Tally.{kept}
use Rattle.rld_look.specs.Backlog.{BacklogSeen}
use Rattle.rld_look.proofs.Noting.{noted_joined}
use Rattle.rld_look.proofs.backlog.Backlog.join.Goals as goal

pub returns-clause-joined : goal.returns-clause-joined
returns-clause-joined c =
    record {
      mid = c.push_all.new.self;
      noted = c.push_all.ensures.noted;
      waiting = ap (λ (b : BacklogSeen). b.waiting) c.self.view_is;
      left_out = λ fate. c.add.ensures.each fate
          ∙ ap (λ (b : BacklogSeen). kept (count_in b.left_out fate + count_in c.args.taken.left_out fate)) c.self.view_is;
    }

pub returns-clause-all : goal.returns-clause-all
returns-clause-all c = λ fates others has had.
    noted_joined fates others (record { waiting = c.args.taken.waited.items; left_out = c.args.taken.left_out }) _ _ _ had (c.push_all.ensures.all fates has) c.self.view_is
    (λ fate. c.add.ensures.each fate)
