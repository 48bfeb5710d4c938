use Rattle.std.proofs.Common.{refl, sym, map}
use Rattle.std.proofs.lemmas.List.{append-nil}
use Rattle.rld_edges.specs.Jobs.{Receives, seen}
use Rattle.rld_edges.proofs.Pushing.{one_more}
use Rattle.rld_edges.proofs.job.push_receivers.Goals as goal

pub loop-init : goal.loop-init
loop-init c = sym (append-nil (map seen c.args.jobs.now.items))

pub loop-preserved : goal.loop-preserved
loop-preserved c =
    one_more seen (map seen c.args.jobs.now.items) c.loop.jobs.items _ _ c.loop.counter (Receives c.args.socket.now c.args.port)
    c.in_ok-push.ensures.items c.loop.invariant refl
