use Rattle.std.proofs.Common.{rules, ◌≡◌, subst, ◌∙◌}
use Rattle.std.specs.Arc.{arc_value}
use Rattle.rsl_accounts.specs.Configuration.{Configuration}
use Rattle.rld_store.specs.Opening.{IsThereIn}
use Rattle.std.proofs.lemmas.Result.{IfOk-weaker}
use Rattle.rld_books.specs.Admitted.{AreAdmitted}
use Rattle.rld_books.specs.Server.{ServerSeen}
use Rattle.rld_spelling.specs.Tables.{table_of}
use Rattle.rld_start.proofs.Going.{both_ok, changed_by_number}
use Rattle.rld_start.proofs.changing.change.Goals as goal

pub returns-clause-admits : goal.returns-clause-admits
returns-clause-admits g c =
    IfOk-weaker c.change_from.result _ _
    (λ started is.
    let one : arc_value c.in_ok-held.held ≡ c.args.old = search rules in
    let two : c.deref.result.now ≡ c.args.old = search rules in
    record {
      old = c.args.old;
      other = c.requires;
      header = c.in_ok-former.former.opened.header;
      end = c.in_ok-former.former.opened.store.books;
      count = c.in_ok-former.former.opened.moves;
      there = subst (λ (x : Configuration). IsThereIn x c.args.begun.frames.octets.items c.in_ok-former.former.opened.header c.in_ok-former.former.opened.store.books c.in_ok-former.former.opened.moves) one c.in_ok-former.ensures.there;
      admitted = subst (λ (x : Configuration). AreAdmitted (table_of x) c.in_ok-former.former.opened.store.books (table_of (arc_value c.args.config)) started.store.books) two
          (subst (λ (books : ServerSeen). AreAdmitted (table_of c.deref.result.now) books (table_of (arc_value c.args.config)) started.store.books) c.into_books.ensures is.0);
      next_is = changed_by_number c.in_ok-former.former.opened.header started.store.header c.in_ok-next.next c.in_ok-former.former.opened.moves (is.1 ∙ c.in-Some.ensures);
    })
    (both_ok c.change_from.result _ _ c.change_from.ensures.admitted c.change_from.ensures.header)
