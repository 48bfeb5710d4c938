use Rattle.std.proofs.Common.{All, List, refl, subst}
use Rattle.std.proofs.lemmas.List.{take_all}
use Rattle.std.proofs.lemmas.List.Elements.{All-more}
use Rattle.rsl_shard.specs.declared.moved.Move.{Move}
use Rattle.rld_books.specs.Server.{IsTakenIn}
use Rattle.rld_books.proofs.server_books.ServerBooks.takes_all.Goals as goal

pub loop-moved-preserved : goal.loop-moved-preserved
loop-moved-preserved c =
    All-more (IsTakenIn c.args.self.now) c.args.moves.now c.loop-moved.moved-index c.moved-item.result c.loop-moved-test.true c.loop-moved.invariant
    (subst (IsTakenIn c.args.self.now) c.moved-item.is (c.takes.ensures.0 c.if-not-takes.false))

pub returns : goal.returns
returns c = (
  λ yes. subst (λ (l : List Move). All (IsTakenIn c.args.self.now) l) (take_all c.loop-moved.moved-index c.args.moves.now c.loop-moved-test.false) c.loop-moved.invariant,
  λ all. refl,
)
