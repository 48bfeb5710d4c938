use Rattle.std.proofs.Common.{ℕ, IfSome, List, subst}
use Rattle.std.specs.Option.{option_and_then}
use Rattle.rsl_accounts.specs.Configuration.{account_number}
use Rattle.rld_books.specs.Saved.{IsFit, book_in}
use Rattle.rld_books.proofs.Misfits.{begun_fits}
use Rattle.rld_books.proofs.admission.Passage.book_of.Goals as goal

pub returns-in_err-kept-clause-fits : goal.returns-in_err-kept-clause-fits
returns-in_err-kept-clause-fits c =
    begun_fits c.args.self.now.numbers.now c.args.entry.now (option_and_then (book_in c.args.self.now.books.now) (account_number c.args.self.now.old.now c.args.entry.now.name))
    (subst (λ (name : List ℕ). IfSome (option_and_then (book_in c.args.self.now.books.now) (account_number c.args.self.now.old.now name)) IsFit) c.as_bytes.ensures.octets c.kept.ensures.fits)

pub returns-in-Some-clause-fits : goal.returns-in-Some-clause-fits
returns-in-Some-clause-fits c =
    begun_fits c.args.self.now.numbers.now c.args.entry.now (option_and_then (book_in c.args.self.now.books.now) (account_number c.args.self.now.old.now c.args.entry.now.name))
    (subst (λ (name : List ℕ). IfSome (option_and_then (book_in c.args.self.now.books.now) (account_number c.args.self.now.old.now name)) IsFit) c.as_bytes.ensures.octets c.kept.ensures.fits)

pub returns-in-None-clause-fits : goal.returns-in-None-clause-fits
returns-in-None-clause-fits c =
    begun_fits c.args.self.now.numbers.now c.args.entry.now (option_and_then (book_in c.args.self.now.books.now) (account_number c.args.self.now.old.now c.args.entry.now.name))
    (subst (λ (name : List ℕ). IfSome (option_and_then (book_in c.args.self.now.books.now) (account_number c.args.self.now.old.now name)) IsFit) c.as_bytes.ensures.octets c.kept.ensures.fits)
