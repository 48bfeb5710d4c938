use Rattle.std.proofs.Common.{arith}
use Rattle.rsl_book.specs.Seen.{all_seen, kept_seen}
use Rattle.rsl_links.proofs.Callers.{ring_more, ring_not}
use Rattle.rsl_book.proofs.ring.Ring.is_same.Goals as goal

pub returns-then-not-is_same_at : goal.returns-then-not-is_same_at
unfolding all_seen
returns-then-not-is_same_at g c =
    let few = c.loop-index-test.true in
    let one = c.len-index-end.ensures.len in
    let two = c.len.ensures.len in
    let three = c.len-2.ensures.len in
    let same = c.if-len.false in
    ring_not (kept_seen c.args.servers.now) (kept_seen c.args.others.now) c.args.self.now.items c.args.other.now.items c.loop-index.index c.is_same_at.result
    (omega arith) (omega arith) c.is_same_at.ensures c.if-not-is_same_at.true

pub loop-index-preserved : goal.loop-index-preserved
unfolding all_seen
loop-index-preserved g c =
    let few = c.loop-index-test.true in
    let one = c.len-index-end.ensures.len in
    let two = c.len.ensures.len in
    let three = c.len-2.ensures.len in
    let same = c.if-len.false in
    ring_more (kept_seen c.args.servers.now) (kept_seen c.args.others.now) c.args.self.now.items c.args.other.now.items c.loop-index.index c.is_same_at.result
    (omega arith) (omega arith) c.is_same_at.ensures c.if-not-is_same_at.false c.loop-index.invariant
