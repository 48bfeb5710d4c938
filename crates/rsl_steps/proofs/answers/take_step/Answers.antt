use Rattle.rsl_steps.proofs.Shards.{takes_sweep, takes_tick}
use Rattle.rsl_steps.proofs.answers.take_step.Goals as goal

pub returns-in-Datagram : goal.returns-in-Datagram
returns-in-Datagram c = λ before are. rw (c.in-Datagram.is, ← c.as_slice.ensures) (c.take_datagram.ensures before are)

pub returns-in-Sweep : goal.returns-in-Sweep
returns-in-Sweep c = λ before are. rw c.in-Sweep.is (takes_sweep c.args.config.now c.args.boot before c.in-Sweep.shard c.in-Sweep.moment c.in-Sweep.nas c.in-Sweep.delay c.take_sweep.result c.args.shards.now c.take_sweep.new.shards are c.take_sweep.ensures)

pub returns-in-Tick : goal.returns-in-Tick
returns-in-Tick c = λ before are. rw c.in-Tick.is (takes_tick c.args.config.now c.args.boot before c.in-Tick.shard c.in-Tick.moment c.take_tick.result c.args.shards.now c.take_tick.new.shards are c.take_tick.ensures)
