-- The lines of a journal whose books began new, over the books that they step.
use Rattle.std.proofs.Common.{◌≡◌, ℕ, ◌%◌, ◌/◌, ◌<◌, List, Option, Some, refl, ap, sym, ◌∙◌, arith}
use Rattle.std.specs.Prelude.{slice_get, take}
use Rattle.std.specs.Option.{option_map, option_map_or}
use Rattle.rsl_accounts.specs.Configuration.{Configuration}
use Rattle.rsl_accounts.specs.declared.entry.Entry.{Entry as Account}
use Rattle.rsl_book.specs.RuledBook.{RuledBook}
use Rattle.rsl_event.specs.declared.event.Decision.TheVariants.{Done}
use Rattle.rsl_event.specs.declared.event.Event.{Event}
use Rattle.rsl_session.specs.Book.{new_book}
use Rattle.rsl_session.specs.BookLaws.{BooksAreThoseOfThePast, BooksHoldThePlacesOfTheRule, DecisionLaw}
use Rattle.rsl_session.specs.BookStep.{book_after, step}
use Rattle.rsl_shard.proofs.Callers.{account_is, book_at_index, new_book_at}
use Rattle.rsl_shard.specs.Moves.{own_in}
use Rattle.rsl_shard.specs.Restep.{book_at, book_of_entry, decision_by, new_books, restep}
use Rattle.rsl_shard.specs.Setup.{setup_of}
use Rattle.rsl_shard.specs.declared.line.Line.{Line}
use Rattle.rsl_steps.specs.Laws.{JournalsObeyTheRule}
use Rattle.rsl_steps.proofs.BookAnswers.{book_decides}
use Rattle.rsl_steps.proofs.Restepped.{after, restepped}

-- the new book of an account
new_book_of : (config : Configuration) (shard account : ℕ) (entry : Account) → shard < config.settings.shards → slice_get config.accounts account ≡ Some entry
    → account % config.settings.shards ≡ shard → book_at (setup_of config shard) (new_books config shard) account ≡ Some (book_of_entry entry)
new_book_of config shard account entry less there of_shard =
    let placed = account_is config.settings.shards shard account of_shard in
    book_at_index shard config.settings.shards account (account / config.settings.shards) (new_books config shard) (omega (arith, less)) placed
    ∙ new_book_at config shard (account / config.settings.shards) less
    ∙ ap (λ (number : ℕ). option_map book_of_entry (slice_get config.accounts number)) (sym placed)
    ∙ ap (option_map book_of_entry) there

after_entry : (entry : Account) (events : List Event) → (let ruled : RuledBook = record { rules = entry.rules; book = book_after entry.rules new_book events } in after events (book_of_entry entry) ≡ ruled)
unfolding after
after_entry entry events = refl

-- the book of an account after lines, where the books began new
pub book_after_lines : (config : Configuration) (shard account : ℕ) (entry : Account) (lines : List Line) → shard < config.settings.shards
    → slice_get config.accounts account ≡ Some entry → account % config.settings.shards ≡ shard
    → book_at (setup_of config shard) (restep (setup_of config shard) (new_books config shard) lines) account
    ≡ Some (record { rules = entry.rules; book = book_after entry.rules new_book (own_in account lines) })
book_after_lines config shard account entry lines less there of_shard =
    restepped (setup_of config shard) (new_books config shard) lines account
    ∙ ap (option_map (after (own_in account lines))) (new_book_of config shard account entry less there of_shard)
    ∙ ap Some (after_entry entry (own_in account lines))

module _ (decides : DecisionLaw) (are_of : BooksAreThoseOfThePast) (hold : BooksHoldThePlacesOfTheRule) where
  pub journals_obey : JournalsObeyTheRule
  journals_obey config shard account entry lines is of_shard less there = record {
    decided = λ n line event at own.
        is.decided n line at
        ∙ ap (decision_by (setup_of config shard) (restep (setup_of config shard) (new_books config shard) (take n lines))) own
        ∙ ap (λ (o : Option RuledBook). option_map_or (λ (ruled : RuledBook). (step ruled.rules ruled.book event).1) o Done)
        (book_after_lines config shard account entry (take n lines) less there of_shard.of_shard)
        ∙ book_decides decides are_of entry.rules (own_in account (take n lines)) event;
    ruled = record { rules = entry.rules; book = book_after entry.rules new_book (own_in account lines) };
    there = book_after_lines config shard account entry lines less there of_shard.of_shard;
    ruled_by = refl;
    book = are_of entry.rules (own_in account lines);
    places = hold entry.rules (own_in account lines);
  }
