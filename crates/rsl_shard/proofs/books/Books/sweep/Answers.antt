use Rattle.std.proofs.Common.{ℕ, Some, length, map, refl, rules, sym, ap, ◌∙◌}
use Rattle.rsl_event.specs.declared.event.Act.TheVariants.{Sweep}
use Rattle.rsl_shard.specs.Restep.{BooksSeen, books_after, step_by}
use Rattle.rsl_shard.specs.declared.moved.Move.TheVariants as moves
use Rattle.rsl_shard.proofs.Moving.{moved_each, written}
use Rattle.rsl_shard.proofs.books.Books.sweep.Goals as goal

pub returns-clause-books : goal.returns-clause-books
returns-clause-books c =
    written c.sweep_each.new.books c.self.inside.list.items c.self.inside.list.len (c.sweep_each.ensures.len ∙ ap length c.deref_mut.ensures.value) (search rules)
    ∙ c.sweep_each.ensures.books
    ∙ ap (map (step_by (Some (record { moment = c.args.moment; act = Sweep c.args.nas.now c.args.delay })))) c.deref_mut.ensures.value
    ∙ sym (moved_each c.self.inside.shard c.self.inside.shards (moves.Sweep c.args.moment c.args.nas.now c.args.delay) (record { moment = c.args.moment; act = Sweep c.args.nas.now c.args.delay }) c.self.inside.list.items (λ (account : ℕ). refl))
    ∙ ap (λ (seen : BooksSeen). books_after seen.setup seen.books (moves.Sweep c.args.moment c.args.nas.now c.args.delay)) c.self.view_is
