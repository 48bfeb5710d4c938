use Rattle.std.proofs.Common.{◌≡◌, ◌∙◌, arith, rules, refl, length}
use Rattle.rsl_session.specs.BookLinks.{is_swept}
use Rattle.rsl_links.specs.Seen.{links_seen}
use Rattle.rsl_links.proofs.Ending.{seen_pass, seen_gone, seen_start, seen_within, long_enough}
use Rattle.rsl_links.proofs.links.Links.sweep.Goals as goal

pub loop-at-init : goal.loop-at-init
loop-at-init c =
    let all : c.len-at.result ≡ length c.args.self.now.list.items = search rules in
    record {
      within = seen_within c.args.servers.now c.args.self.now.list.items c.len-at.result all;
      inside = omega arith;
      left = seen_start c.args.servers.now (is_swept c.args.nas.now c.args.delay c.args.now) c.args.self.now.list.items c.len-at.result all;
      counted = c.requires.counted;
      fewer = omega arith;
      ports = refl;
      room = refl;
    }

pub loop-at-preserved-then-is_swept : goal.loop-at-preserved-then-is_swept
loop-at-preserved-then-is_swept c =
    let before = c.loop-at.invariant in
    let gone = c.end_at.ensures in
    record {
      within = omega arith;
      inside = long_enough c.loop-at.self.list.items c.end_at.new.self.list.items c.loop-at.at c.loop-at-test.true before.inside gone.links;
      left = seen_gone c.args.servers.now (is_swept c.args.nas.now c.args.delay c.args.now) c.loop-at.self.list.items c.end_at.new.self.list.items
          (links_seen c.args.servers.now c.args.self.now.list.items) c.loop-at.at c.index.result.now c.is_swept.result
          c.loop-at-test.true before.within before.inside c.index.ensures c.is_swept.ensures c.if-is_swept.true gone.links before.left;
      counted = gone.counted;
      fewer = omega (arith, gone.fewer, before.fewer);
      ports = gone.ports ∙ before.ports;
      room = gone.room ∙ before.room;
    }

pub loop-at-preserved : goal.loop-at-preserved
loop-at-preserved c =
    let before = c.loop-at.invariant in
    record {
      within = omega arith;
      inside = omega arith;
      left = seen_pass c.args.servers.now (is_swept c.args.nas.now c.args.delay c.args.now) c.loop-at.self.list.items
          (links_seen c.args.servers.now c.args.self.now.list.items) c.loop-at.at c.index.result.now c.is_swept.result
          c.loop-at-test.true before.within before.inside c.index.ensures c.is_swept.ensures c.if-is_swept.false before.left;
      counted = before.counted;
      fewer = before.fewer;
      ports = before.ports;
      room = before.room;
    }
