use Rattle.std.proofs.Common.{◌∙◌, sym}
use Rattle.rld_books.specs.Numbers.{number_in}
use Rattle.rld_books.proofs.Placing.{stops_all, stops_more, stops_none}
use Rattle.rld_books.proofs.carry.stops_of.Goals as goal

pub loop-stop-init : goal.loop-stop-init
loop-stop-init c = c.new-made.ensures.items ∙ sym (stops_none (number_in c.args.numbers.now))

pub loop-stop-preserved : goal.loop-stop-preserved
loop-stop-preserved c =
    stops_more (number_in c.args.numbers.now) c.args.stops.now c.loop-stop.stop-index c.stop-item.result c.loop-stop.made.items c.push_stop.new.made.items c.loop-stop-test.true c.stop-item.is
    c.loop-stop.invariant c.in_ok-push_stop.ensures

pub returns : goal.returns
returns c = c.loop-stop.invariant ∙ stops_all (number_in c.args.numbers.now) c.args.stops.now c.loop-stop.stop-index c.loop-stop-test.false
