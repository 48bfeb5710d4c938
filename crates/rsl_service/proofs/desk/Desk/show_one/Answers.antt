use Rattle.std.proofs.Common.{rules}
use Rattle.rsl_shard.specs.Moves.{IsOfShard}
use Rattle.rsl_service.proofs.Reported.{shown_by}
use Rattle.rsl_service.proofs.desk.Desk.show_one.Goals as goal

pub returns-in-Some-clause-report : goal.returns-in-Some-clause-report
returns-in-Some-clause-report g c =
    let there : IsOfShard c.args.self.now.shard.setup c.args.account = search rules in
    shown_by c.args.config.now c.args.number c.args.account c.args.self.now.shard g.L.Tally.setup g.L.Tally.books c.args.rows.now c.in-Some.book.now c.of.result
    c.open_invariant.ensures c.args.self.now.numbered c.requires.setup c.args.self.now.ruled c.requires.books there c.in-Some.ensures.some
    c.of.ensures c.requires.rows
