use Rattle.std.proofs.Common.{sym, ap, ◌∙◌}
use Rattle.rsl_shard.specs.declared.moved.Move.{Move}
use Rattle.rld_books.specs.Server.{server_after}
use Rattle.rld_books.proofs.Stepping.{stray_after}
use Rattle.rld_books.proofs.server_books.ServerBooks.make.Goals as goal

pub returns-clause-books : goal.returns-clause-books
returns-clause-books c =
    stray_after c.args.self.now c.in-Stray.moment c.in-Stray.note ∙ ap (λ (moved : Move). server_after c.args.self.now moved) (sym c.in-Stray.is)
