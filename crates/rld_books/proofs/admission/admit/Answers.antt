use Rattle.std.proofs.Common.{map, ap, ◌∙◌}
use Rattle.rsl_session.specs.Saved.{saved_book}
use Rattle.rld_books.proofs.Admitting.{are_admitted}
use Rattle.rld_books.proofs.admission.admit.Goals as goal

pub returns-clause-admitted : goal.returns-clause-admitted
returns-clause-admitted c =
    are_admitted c.as_slice.result.now c.args.old.now c.args.books.now c.args.new.now c.in_ok-made.made c.as_slice-2.result.now
    (c.as_slice.ensures.value ∙ c.in_ok-numbers.ensures) c.in_ok-made.ensures.server c.in_ok-made.ensures.saved
    (ap (map saved_book) c.as_slice-2.ensures.value ∙ c.in_ok-kept.ensures.begun)
