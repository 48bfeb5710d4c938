use Rattle.std.proofs.Common.{rules}
use Rattle.rsl_record.proofs.Walking.{chain_more}
use Rattle.rsl_record.proofs.audit_walk.take_line.Goals as goal

pub returns-clause-chain : goal.returns-clause-chain
returns-clause-chain c shard before is =
    chain_more c.args.config.now shard before c.args.chain.now c.take_line.new.self c.args.line.now c.in_ok-decision.decision is c.in_ok-decision.ensures
    (search rules)
