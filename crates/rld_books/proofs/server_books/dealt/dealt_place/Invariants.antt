use Rattle.std.proofs.Common.{◌≡◌, ◌*◌, ◌≤◌}
use Rattle.rld_books.specs.Dealt.{books_before}
use Rattle.rld_books.proofs.server_books.dealt.dealt_place.Given as goal

abbrev pub invariant-loop-shard : goal.invariant-loop-shard
invariant-loop-shard l = record {
  before : l.before ≡ books_before l.shards l.count l.shard;
  few : l.before ≤ 16385 * l.shard;
}
