use Rattle.std.proofs.Common.{arith, rules}
use Rattle.rld_books.proofs.Dealing.{few_more, more_before, none_before}
use Rattle.rld_books.proofs.server_books.dealt.dealt_place.Goals as goal

pub loop-shard-init : goal.loop-shard-init
loop-shard-init c = record { before = none_before c.args.shards c.args.count; few = omega arith }

pub loop-shard-preserved : goal.loop-shard-preserved
loop-shard-preserved c = record {
  before = more_before c.args.shards c.args.count c.loop-shard.shard c.loop-shard.before c.div_ceil-before.result c.loop-shard.invariant.before (search rules);
  few = omega (arith, c.loop-shard.invariant.few, few_more c.args.shards c.saturating_sub.result c.div_ceil-before.result (omega arith) (search rules));
}
