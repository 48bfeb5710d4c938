use Rattle.rsl_book.proofs.Insides.{come_seen}
use Rattle.rsl_book.proofs.book.Book.come_to.Goals as goal

pub returns : goal.returns
returns c =
    rw (← c.self.view_is)
    (come_seen c.self.inside c.max-self-inside.result c.lapse.new.self.list.items c.args.moment c.max-self-inside.ensures c.lapse.ensures.links)
