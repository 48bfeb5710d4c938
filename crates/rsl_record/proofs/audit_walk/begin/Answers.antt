use Rattle.std.proofs.Common.{arith, refl}
use Rattle.std.proofs.lemmas.Bool.{false≢true}
use Rattle.rsl_record.proofs.Walking.{begins, begins_otherwise, begun}
use Rattle.rsl_record.proofs.audit_walk.begin.Goals as goal

pub returns-then-not-is_joined_by-clause-err : goal.returns-then-not-is_joined_by-clause-err
returns-then-not-is_joined_by-clause-err c =
    begins_otherwise c.args.config.now c.args.first.now c.in_ok-chain.chain c.in_ok-chain.ensures.lines c.in_ok-chain.ensures.books
    (λ next. false≢true (c.if-not-is_joined_by.ensures.next.1 next))

pub returns-clause-begins : goal.returns-clause-begins
returns-clause-begins c =
    begins c.args.config.now c.args.first.now c.in_ok-chain.chain (omega (arith, c.if-first-shards.false, c.shards.ensures.number)) c.in_ok-chain.ensures.lines
    c.in_ok-chain.ensures.books (c.if-not-is_joined_by.ensures.next.0 refl)

pub returns-clause-chain : goal.returns-clause-chain
returns-clause-chain c =
    begun c.args.config.now c.args.first.now.shard c.in_ok-chain.chain (omega (arith, c.if-first-shards.false, c.shards.ensures.number)) c.in_ok-chain.ensures.lines
    c.in_ok-chain.ensures.books
