use Rattle.std.proofs.Common.{◌-◌, ◌^◌, ◌<◌, ◌++◌, ◌∷◌, [], List, refl, sym, ap, subst, ◌∙◌}
use Rattle.rsl_shard.specs.Moves.{IsTaken}
use Rattle.rsl_shard.specs.Seen.{ShardSeen, total_of, with_line}
use Rattle.rsl_shard.specs.ShardSeen.{shard_seen}
use Rattle.rsl_shard.specs.declared.line.Line.{Line}
use Rattle.rsl_shard.proofs.Journaling.{books_on, moved_on, seen_on}
use Rattle.rsl_shard.proofs.shard.Shard.step_over.Goals as goal

pub invariant_of-self-in-Ok : goal.invariant_of-self-in-Ok
invariant_of-self-in-Ok c =
    moved_on c.self.inside (record { books = c.step.new.self; opening = c.self.inside.opening; journal = c.push.new.self; first = c.self.inside.first })
    c.args.moved c.in-Ok.decision c.self.invariant
    (subst (λ (seen : ShardSeen). IsTaken seen.setup c.args.moved) (sym c.self.view_is) c.requires.takes)
    (subst (λ (seen : ShardSeen). total_of seen < 2 ^ 64 - 1) (sym c.self.view_is) c.requires.room)
    c.in-Ok.ensures.decision c.step.ensures.setup c.in-Ok.ensures.books c.open_invariant-in-Ok.ensures refl refl
    (c.push.ensures
    ∙ ap (λ (lines : List Line). lines ++ record { moved = c.args.moved; decision = c.in-Ok.decision } ∷ []) c.make_room.ensures.lines)

pub returns-in-Ok-clause-line : goal.returns-in-Ok-clause-line
returns-in-Ok-clause-line c =
    seen_on c.self.inside (record { books = c.step.new.self; opening = c.self.inside.opening; journal = c.push.new.self; first = c.self.inside.first })
    c.args.moved c.in-Ok.decision c.step.ensures.setup c.in-Ok.ensures.books refl refl
    (c.push.ensures
    ∙ ap (λ (lines : List Line). lines ++ record { moved = c.args.moved; decision = c.in-Ok.decision } ∷ []) c.make_room.ensures.lines)
    ∙ ap (λ (seen : ShardSeen). with_line seen c.args.moved c.in-Ok.decision) c.self.view_is

pub returns-in-Ok-clause-books : goal.returns-in-Ok-clause-books
returns-in-Ok-clause-books c =
    books_on c.args.self.now (shard_seen (record { books = c.step.new.self; opening = c.self.inside.opening; journal = c.push.new.self; first = c.self.inside.first }))
    c.args.moved c.in-Ok.decision (returns-in-Ok-clause-line c)
