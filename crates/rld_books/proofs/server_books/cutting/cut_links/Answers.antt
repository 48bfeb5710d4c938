use Rattle.std.proofs.Common.{◌∙◌, arith}
use Rattle.rld_books.proofs.Cutting.{all_links, one_link}
use Rattle.rld_books.proofs.server_books.cutting.cut_links.Goals as goal

pub loop-link-preserved : goal.loop-link-preserved
loop-link-preserved c =
    one_link c.args.now c.args.links.now c.loop-link.links c.loop-link.link-index c.link-item.result c.cut_link.new.link c.loop-link-test.true c.loop-link.invariant c.link-item.is
    c.cut_link.ensures

pub returns : goal.returns
returns c = c.loop-link.invariant ∙ all_links c.args.now c.args.links.now c.loop-link.link-index (omega (arith, c.loop-link-test.false))
