use Rattle.std.proofs.Common.{◌≡◌, ℕ, List, Some, length, map, refl, rules, subst, sym, ap, ◌∙◌}
use Rattle.std.proofs.lemmas.List.{length-map}
use Rattle.rsl_book.specs.RuledBook.{RuledBook}
use Rattle.rsl_event.specs.declared.event.Act.TheVariants.{Tick}
use Rattle.rsl_shard.specs.Restep.{step_by}
use Rattle.rsl_shard.specs.declared.moved.Move.TheVariants as moves
use Rattle.rld_books.specs.Server.{IsServer, server_after}
use Rattle.rld_books.proofs.Stepping.{each_after, is_still_server, written}
use Rattle.rld_books.proofs.server_books.ServerBooks.tick.Goals as goal

pub invariant_of-self : goal.invariant_of-self
invariant_of-self c =
    let old : List RuledBook = c.self.inside.list.items in
    let made : c.tick_each.new.books ≡ map (step_by (Some (record { moment = c.args.moment; act = Tick }))) old =
    c.tick_each.ensures ∙ ap (map (step_by (Some (record { moment = c.args.moment; act = Tick })))) c.deref_mut.ensures.value in
    subst (λ (l : List RuledBook). IsServer l)
    (sym (written c.tick_each.new.books old c.self.inside.list.len (ap length made ∙ length-map old (step_by (Some (record { moment = c.args.moment; act = Tick })))) (search rules) ∙ made
    ∙ each_after old (moves.Tick c.args.moment) (record { moment = c.args.moment; act = Tick }) (λ (account : ℕ). refl)))
    (is_still_server old (moves.Tick c.args.moment) c.self.invariant)

pub returns-clause-books : goal.returns-clause-books
returns-clause-books c =
    let old : List RuledBook = c.self.inside.list.items in
    let made : c.tick_each.new.books ≡ map (step_by (Some (record { moment = c.args.moment; act = Tick }))) old =
    c.tick_each.ensures ∙ ap (map (step_by (Some (record { moment = c.args.moment; act = Tick })))) c.deref_mut.ensures.value in
    written c.tick_each.new.books old c.self.inside.list.len (ap length made ∙ length-map old (step_by (Some (record { moment = c.args.moment; act = Tick })))) (search rules) ∙ made
    ∙ each_after old (moves.Tick c.args.moment) (record { moment = c.args.moment; act = Tick }) (λ (account : ℕ). refl)
    ∙ ap (λ (l : List RuledBook). server_after l (moves.Tick c.args.moment)) c.self.view_is
