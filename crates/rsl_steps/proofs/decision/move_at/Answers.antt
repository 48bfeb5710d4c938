use Rattle.std.proofs.lemmas.Option.{slice_get-get_or}
use Rattle.rsl_steps.proofs.Shards.{moved_at, not_moved}
use Rattle.rsl_steps.proofs.decision.move_at.Goals as goal

pub step-requires-clause-takes : goal.step-requires-clause-takes
step-requires-clause-takes c =
    c.requires.takes _ (slice_get-get_or c.args.shards.now c.args.number c.index-shards-index.result c.requires.there)

pub step-requires-clause-room : goal.step-requires-clause-room
step-requires-clause-room c =
    c.requires.room _ (slice_get-get_or c.args.shards.now c.args.number c.index-shards-index.result c.requires.there)

pub returns-clause-moved : goal.returns-clause-moved
returns-clause-moved c =
    moved_at c.args.shards.now c.args.number c.index-shards-index.result c.step.new.self c.args.moved c.step.result c.requires.there c.step.ensures.line c.step.ensures.decision

pub returns-clause-err : goal.returns-clause-err
returns-clause-err c = not_moved c.args.shards.now c.args.number c.index-shards-index.result c.step.new.self c.step.result c.step.ensures.err
