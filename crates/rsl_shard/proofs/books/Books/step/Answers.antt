use Rattle.std.proofs.Common.{ℕ, ap, sym}
use Rattle.rsl_shard.specs.Moves.{event_to}
use Rattle.rsl_shard.specs.declared.moved.Move.{Move}
use Rattle.rsl_shard.proofs.Moving.{moved_none}
use Rattle.rsl_shard.proofs.books.Books.step.Goals as goal

pub returns-in-Stray-clause-books : goal.returns-in-Stray-clause-books
returns-in-Stray-clause-books c =
    sym (moved_none c.args.self.now.setup.shard c.args.self.now.setup.shards c.args.moved.now c.args.self.now.books
    (λ (account : ℕ). ap (λ (moved : Move). event_to account moved) c.in-Stray.is))
