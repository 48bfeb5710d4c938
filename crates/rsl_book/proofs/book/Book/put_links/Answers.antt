use Rattle.rsl_book.proofs.PutBack.{link_put, link_not_put, none_put}
use Rattle.rsl_book.proofs.book.Book.put_links.Goals as goal

pub loop-link-init : goal.loop-link-init
loop-link-init c = none_put c.args.self.now c.args.saved.now c.requires.none

pub returns-then-not-fits-clause-full : goal.returns-then-not-fits-clause-full
returns-then-not-fits-clause-full c _ =
    link_not_put c.args.self.now c.loop-link.self c.args.saved.now c.loop-link.link-index c.link-item.result c.requires.fit c.loop-link-test.true c.link-item.is
    c.loop-link.invariant (c.in_ok-fits.ensures.full c.if-not-fits.true)

pub loop-link-preserved : goal.loop-link-preserved
loop-link-preserved c =
    link_put c.args.self.now c.loop-link.self c.put_link.new.self c.args.saved.now c.loop-link.link-index c.link-item.result c.loop-link-test.true c.link-item.is
    c.loop-link.invariant (c.in_ok-fits.ensures.put c.if-not-fits.false)
