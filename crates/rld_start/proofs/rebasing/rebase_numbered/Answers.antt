use Rattle.std.proofs.Common.{◌+◌, subst, sym}
use Rattle.std.specs.Arc.{arc_value}
use Rattle.rld_books.specs.Saved.{IsServerOf}
use Rattle.std.proofs.lemmas.Result.{IfOk-weaker}
use Rattle.rld_start.proofs.Going.{after_by_number, both_ok}
use Rattle.rld_start.specs.Numbers.{greatest_by, number_of}
use Rattle.rld_start.proofs.rebasing.rebase_numbered.Goals as goal

pub returns-clause-cut : goal.returns-clause-cut
returns-clause-cut g c =
    IfOk-weaker c.cut_from.result _ _
    (λ cut is. record {
      header = c.in_ok-former.former.opened.header;
      end = c.in_ok-former.former.opened.store.books;
      count = c.in_ok-former.former.opened.moves;
      there = c.in_ok-former.ensures.there;
      cut = (is.0 (subst (λ config. IsServerOf (arc_value config) c.in_ok-former.former.opened.store.books) (sym c.in_ok-former.ensures.config) c.in_ok-former.ensures.server), is.1.0);
      next_is = after_by_number c.in_ok-former.former.opened.header cut.begun.store.header (greatest_by number_of c.args.names.now + 1) c.in_ok-former.former.opened.moves is.1.1;
    })
    (both_ok c.cut_from.result _ _ c.cut_from.ensures.books
    (both_ok c.cut_from.result _ _ c.cut_from.ensures.moments c.cut_from.ensures.header))
