use Rattle.std.proofs.Common.{◌+◌, subst, sym}
use Rattle.std.proofs.lemmas.Result.{IfOk-weaker}
use Rattle.std.specs.Arc.{arc_value}
use Rattle.rld_books.specs.Server.{ServerSeen}
use Rattle.rld_start.proofs.Going.{after_by_number, both_ok}
use Rattle.rld_start.specs.Numbers.{greatest_by, number_of}
use Rattle.rld_store.specs.Opening.{IsThereIn}
use Rattle.rld_start.proofs.starting.go_on.Goals as goal

pub returns-clause-goes_on : goal.returns-clause-goes_on
returns-clause-goes_on g c =
    IfOk-weaker c.go_on_from.result _ _
    (λ started is. record {
      header = c.in_ok-former.former.opened.header;
      count = c.in_ok-former.former.opened.moves;
      there = subst (λ (books : ServerSeen). IsThereIn (arc_value c.args.config) c.args.begun.frames.octets.items c.in_ok-former.former.opened.header books c.in_ok-former.former.opened.moves)
          (sym is.0) c.in_ok-former.ensures.there;
      next_is = after_by_number c.in_ok-former.former.opened.header started.store.header (greatest_by number_of c.args.names.now + 1) c.in_ok-former.former.opened.moves is.1;
    })
    (both_ok c.go_on_from.result _ _ c.go_on_from.ensures.books c.go_on_from.ensures.header)
