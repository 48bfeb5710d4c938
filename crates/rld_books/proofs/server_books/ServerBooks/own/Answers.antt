use Rattle.std.proofs.Common.{◌<◌, List, length, subst, sym, ap, ◌∙◌}
use Rattle.rsl_book.specs.RuledBook.{RuledBook}
use Rattle.rsl_shard.specs.declared.moved.Move.TheVariants as moves
use Rattle.rld_books.specs.Server.{IsServer, decision_in, server_after}
use Rattle.rld_books.proofs.Stepping.{is_still_server, own_books, own_decision}
use Rattle.rld_books.proofs.server_books.ServerBooks.own.Goals as goal

pub invariant_of-self : goal.invariant_of-self
invariant_of-self c =
    let old : List RuledBook = c.self.inside.list.items in
    let within : c.args.account < length old = subst (λ (l : List RuledBook). c.args.account < length l) (sym c.self.view_is) c.requires.there in
    subst (λ (l : List RuledBook). IsServer l)
    (sym (own_books old c.args.account c.args.event c.index_mut.result.now c.apply.new.self c.apply.result within c.index_mut.ensures.value c.apply.ensures.step c.apply.ensures.rules))
    (is_still_server old (moves.Own c.args.account c.args.event) c.self.invariant)

pub returns-clause-books : goal.returns-clause-books
returns-clause-books c =
    let old : List RuledBook = c.self.inside.list.items in
    let within : c.args.account < length old = subst (λ (l : List RuledBook). c.args.account < length l) (sym c.self.view_is) c.requires.there in
    own_books old c.args.account c.args.event c.index_mut.result.now c.apply.new.self c.apply.result within c.index_mut.ensures.value c.apply.ensures.step c.apply.ensures.rules
    ∙ ap (λ (l : List RuledBook). server_after l (moves.Own c.args.account c.args.event)) c.self.view_is

pub returns-clause-decision : goal.returns-clause-decision
returns-clause-decision c =
    let old : List RuledBook = c.self.inside.list.items in
    let within : c.args.account < length old = subst (λ (l : List RuledBook). c.args.account < length l) (sym c.self.view_is) c.requires.there in
    own_decision old c.args.account c.args.event c.index_mut.result.now c.apply.new.self.book c.apply.result within c.index_mut.ensures.value c.apply.ensures.step
    ∙ ap (λ (l : List RuledBook). decision_in l (moves.Own c.args.account c.args.event)) c.self.view_is
