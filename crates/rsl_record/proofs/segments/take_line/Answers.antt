use Rattle.rsl_record.proofs.Chains.{line_not_made}
use Rattle.rsl_record.proofs.segments.take_line.Goals as goal

pub returns-in-None-clause-err : goal.returns-in-None-clause-err
returns-in-None-clause-err c =
    line_not_made c.args.chain.now c.take_line.new.self c.args.line.now c.in_ok-take_line.field-0 c.shard.result c.in_ok-take_line.ensures c.in-None.is c.shard.ensures
