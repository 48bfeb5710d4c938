use Rattle.std.proofs.Common.{◌∙◌, sym}
use Rattle.rld_books.specs.Numbers.{number_in}
use Rattle.rld_books.proofs.Placing.{asks_all, asks_more, asks_none}
use Rattle.rld_books.proofs.carry.asks_of.Goals as goal

pub loop-ask-init : goal.loop-ask-init
loop-ask-init c = c.new-made.ensures.items ∙ sym (asks_none (number_in c.args.numbers.now))

pub loop-ask-preserved : goal.loop-ask-preserved
loop-ask-preserved c =
    asks_more (number_in c.args.numbers.now) c.args.asks.now c.loop-ask.ask-index c.ask-item.result c.loop-ask.made.items c.push_ask.new.made.items c.loop-ask-test.true c.ask-item.is
    c.loop-ask.invariant c.in_ok-push_ask.ensures

pub returns : goal.returns
returns c = c.loop-ask.invariant ∙ asks_all (number_in c.args.numbers.now) c.args.asks.now c.loop-ask.ask-index c.loop-ask-test.false
