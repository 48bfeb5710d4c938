use Rattle.std.proofs.Common.{◌≡◌, ◌+◌, length, sym, ◌∙◌, arith, rules}
use Rattle.rsl_book.specs.Named.{is_named}
use Rattle.rsl_book.proofs.Naming.{free_past, named_more}
use Rattle.rsl_book.proofs.table.free_index.Goals as goal

pub loop-index-preserved : goal.loop-index-preserved
loop-index-preserved c =
    named_more (is_named c.args.links.now.items c.args.asks.now.items c.args.stops.now.items) c.loop-index.index c.loop-index.invariant (sym c.is_named.ensures ∙ c.if-not-is_named.false)

pub returns-clause-free : goal.returns-clause-free
returns-clause-free c =
    let one : c.len.result ≡ length c.args.links.now.items = search rules in
    let two = c.len-2.ensures.len in
    let three = c.len-3.ensures.len in
    let past = c.loop-index-test.false in
    free_past c.args.links.now.items c.args.asks.now.items c.args.stops.now.items (c.len.result + c.len-2.result + c.len-3.result) (omega (arith, one, two, three))
    (λ j low. c.loop-index.invariant j (omega (arith, low, past)))
