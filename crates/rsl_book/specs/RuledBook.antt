-- What a contract sees of a book: the rules of its account, and the running book that they step.
use Rattle.rsl_accounts.specs.declared.rules.Rules.{Rules}
use Rattle.std.specs.Prelude.{◌≤◌}
use Rattle.rsl_session.specs.Book.{Book, places_in}

pub record RuledBook : Type 0 where
  pub rules : Rules
  pub book : Book

-- the places that are held are within the limit
pub record IsWithinLimit (value : RuledBook) : Type 0 where
  pub limit : places_in value.rules value.book ≤ value.rules.places
