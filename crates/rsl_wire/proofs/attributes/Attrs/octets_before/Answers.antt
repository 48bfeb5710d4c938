use Rattle.std.proofs.Common.{◌≡◌}
use Rattle.rsl_wire.specs.Attributes.{octets_before}
use Rattle.rsl_wire.proofs.BeforeLaws.{counted_on, stays_short, counted_here, counted_all, within_by_count}
use Rattle.rsl_wire.proofs.attributes.Attrs.octets_before.Goals as goal

pub loop-found-preserved : goal.loop-found-preserved
loop-found-preserved c = record {
  counted = counted_on c.args.kind c.in-Some.found c.loop-found.len c.in-Some.value.now c.args.self.now c.loop-found.found-iterator c.next.new.self c.if-found-kind.false c.in-Some.ensures.steps c.loop-found.invariant.counted;
  short = stays_short c.args.kind c.in-Some.found c.loop-found.len _ c.in-Some.value.now c.loop-found.found-iterator c.next.new.self c.in-Some.ensures.steps c.loop-found.invariant.short;
}

pub returns-then-found-kind-clause-count : goal.returns-then-found-kind-clause-count
returns-then-found-kind-clause-count c = counted_here c.args.kind c.in-Some.found c.loop-found.len c.in-Some.value.now c.args.self.now c.loop-found.found-iterator c.next.new.self c.if-found-kind.true c.in-Some.ensures.steps c.loop-found.invariant.counted

pub returns-then-found-kind-clause-within : goal.returns-then-found-kind-clause-within
returns-then-found-kind-clause-within c = within_by_count c.args.kind c.loop-found.len c.args.self.now (counted_here c.args.kind c.in-Some.found c.loop-found.len c.in-Some.value.now c.args.self.now c.loop-found.found-iterator c.next.new.self c.if-found-kind.true c.in-Some.ensures.steps c.loop-found.invariant.counted)

pub returns-clause-count : goal.returns-clause-count
returns-clause-count c = counted_all c.args.kind c.loop-found.len c.args.self.now c.loop-found.found-iterator c.in-None.ensures.steps.0 c.loop-found.invariant.counted

pub returns-clause-within : goal.returns-clause-within
returns-clause-within c = within_by_count c.args.kind c.loop-found.len c.args.self.now (counted_all c.args.kind c.loop-found.len c.args.self.now c.loop-found.found-iterator c.in-None.ensures.steps.0 c.loop-found.invariant.counted)
