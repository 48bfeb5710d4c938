-- Every history opens within limits.
use Rattle.std.proofs.Common.{◌≡◌, ℕ, ◌≤◌, List, [], Option, Some, None, refl, sym, ap, subst, ◌∙◌}
use Rattle.std.specs.Prelude.{slice_get}
use Rattle.std.specs.Option.{option_and_then, option_map, option_map_or}
use Rattle.std.proofs.lemmas.Option.{slice_get-map}
use Rattle.rsl_accounts.specs.Configuration.{Configuration}
use Rattle.rsl_accounts.specs.Limits.{IsConfiguration, RulesFit}
use Rattle.rsl_accounts.specs.declared.entry.Entry.{Entry}
use Rattle.rsl_accounts.specs.declared.rules.Rules.{Rules}
use Rattle.rsl_book.specs.RuledBook.{RuledBook}
use Rattle.rsl_session.specs.Book.{Book, new_book, places_in}
use Rattle.rsl_session.specs.BookLaws.{BooksStayWithinTheLimit}
use Rattle.rsl_session.specs.BookStep.{book_after}
use Rattle.rsl_session.specs.Places.{places_of}
use Rattle.rsl_session.specs.declared.bundle.Bundle.{Bundle}
use Rattle.rsl_shard.specs.Restep.{book_of_entry}
use Rattle.rld_books.specs.Admitted.{AreAdmitted, account_with, admitted_book, next_number}
use Rattle.rld_books.specs.Carried.{Next, carried_book}
use Rattle.rld_books.specs.Laws.{PlacesStayWithinTheLimit}
use Rattle.rld_books.specs.Cut.{cut_book, cut_ruled, cut_server}
use Rattle.rld_books.specs.CutLaws.{CutBooksFit}
use Rattle.rld_books.specs.Saved.{book_in}
use Rattle.rld_books.specs.Server.{ServerSeen, new_server}
use Rattle.rld_spelling.specs.TableSpelled.{TableSeen}
use Rattle.rld_spelling.specs.Tables.{account_row, table_of}
use Rattle.rld_lives.specs.Within.{AreWithinLimits, HistoriesOpenWithinLimits}
use Rattle.rld_lives.proofs.Within.{account_fits}

pub new_book_in : (config : Configuration) (account : ℕ) (entry : Entry) → slice_get config.accounts account ≡ Some entry → book_in (new_server config) account ≡ Some (book_of_entry entry)
new_book_in config account entry there = slice_get-map book_of_entry config.accounts account ∙ ap (option_map book_of_entry) there

none_held : BooksStayWithinTheLimit → (rules : Rules) → RulesFit rules → places_in rules new_book ≤ rules.places
unfolding book_after
none_held stay rules fit = stay rules [] 0 fit

module _ (stay : BooksStayWithinTheLimit) (carried : PlacesStayWithinTheLimit) (fit : CutBooksFit) where
  -- new books
  new_within : (config : Configuration) → IsConfiguration config → AreWithinLimits config (new_server config)
  new_within config limits = record {
    each = λ account entry there. record {
      ruled = book_of_entry entry;
      there = new_book_in config account entry there;
      ruled_by = refl;
      within = record { limit = none_held stay entry.rules (account_fits config account entry limits there) };
    };
  }

  -- books that are admitted
  carried_within : (next : Next) (rules : Rules) (found : Option RuledBook) → RulesFit rules
      → places_in rules (option_map_or (λ (ruled : RuledBook). carried_book next rules ruled.book) found new_book) ≤ rules.places
  carried_within next rules None fits = none_held stay rules fits
  carried_within next rules (Some ruled) fits = carried next rules ruled.book

  admitted_within : (old : TableSeen) (config : Configuration) (books opening : ServerSeen) → IsConfiguration config → AreAdmitted old books (table_of config) opening → AreWithinLimits config opening
  admitted_within old config books opening limits are = record {
    each = λ account entry there.
        let new : TableSeen = table_of config in
        record {
          ruled = record { rules = entry.rules; book = admitted_book old books new (account_row entry) };
          there = are.each account (account_row entry) (slice_get-map account_row config.accounts account ∙ ap (option_map account_row) there);
          ruled_by = refl;
          within = record {
            limit = carried_within (next_number old new) entry.rules (option_and_then (book_in books) (account_with old entry.name)) (account_fits config account entry limits there);
          };
        };
  }

  -- books that are cut
  same_places : (now : ℕ) (rules : Rules) (book : Book) → places_in rules (cut_book now book) ≡ places_in rules book
  unfolding places_in
  same_places now rules book = ap (λ (bundles : List (Option Bundle)). places_of rules.ports bundles) (fit.bundles now book)

  cut_within : (now : ℕ) (config : Configuration) (books : ServerSeen) → AreWithinLimits config books → AreWithinLimits config (cut_server now books)
  cut_within now config books within = record {
    each = λ account entry there.
        let found = within.each account entry there in
        record {
          ruled = cut_ruled now found.ruled;
          there = slice_get-map (cut_ruled now) books account ∙ ap (option_map (cut_ruled now)) found.there;
          ruled_by = found.ruled_by;
          within = record {
            limit = subst (λ (places : ℕ). places ≤ found.ruled.rules.places) (sym (same_places now found.ruled.rules found.ruled.book)) found.within.limit;
          };
        };
  }

  pub histories_open : HistoriesOpenWithinLimits
  histories_open = record { new = new_within; admitted = admitted_within; cut = cut_within }
