use Rattle.std.proofs.Common.{List, [], refl, ap, ◌∙◌}
use Rattle.rsl_session.specs.Saved.{saved_links}
use Rattle.rsl_session.specs.declared.saved.SavedLink.{SavedLink}
use Rattle.rld_books.specs.Carried.{asks_on, links_on, placed, stops_on}
use Rattle.rld_books.specs.Numbers.{number_in}
use Rattle.rld_books.proofs.Placing.{book_made}
use Rattle.rld_books.proofs.carry.carry.Goals as goal

pub returns : goal.returns
returns c =
    book_made (number_in c.args.numbers.now) c.args.rules.now c.args.kept.now _ refl
    (c.in_ok-links_of.ensures ∙ ap (λ (l : List SavedLink). placed c.args.rules.now [] (links_on (number_in c.args.numbers.now) (saved_links l))) c.as_slice.ensures.value)
    refl
    (c.in_ok-asks_of.ensures ∙ ap (asks_on (number_in c.args.numbers.now)) c.as_slice-2.ensures.value)
    (c.in_ok-stops_of.ensures ∙ ap (stops_on (number_in c.args.numbers.now)) c.as_slice-3.ensures.value)
    refl
