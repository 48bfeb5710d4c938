use Rattle.std.proofs.Common.{ℕ, ◌-◌, ◌∙◌, ap, cond}
use Rattle.std.specs.Prelude.{nat_lt}
use Rattle.rsl_accounts.specs.declared.rules.Rules.{Rules}
use Rattle.rsl_session.specs.Book.{places_in}
use Rattle.rsl_links.proofs.Callers.{fits_freed, one_of}
use Rattle.rsl_book.proofs.book.Book.fits_without.Goals as goal

pub returns : goal.returns
returns c =
    let value = c.args.self.now in
    fits_freed value.rules value.book c.args.at (cond c.frees_a_place.result 1 0) _ c.frees_a_place.ensures
    (ap (λ (rules : Rules). nat_lt (c.held.result - c.from.result) rules.places) c.rules.ensures.rules
    ∙ ap (λ (n : ℕ). nat_lt (n - c.from.result) value.rules.places) c.held.ensures.places
    ∙ ap (λ (n : ℕ). nat_lt (places_in value.rules value.book - n) value.rules.places) (one_of c.frees_a_place.result c.from.result c.from.ensures))
