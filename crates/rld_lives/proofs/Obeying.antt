-- All lives obey the rule: each account began with a new book, and goes on with it by its own events alone. That book
-- is the one of their past.
use Rattle.std.proofs.Common.{◌≡◌, ℕ, ◌≤◌, List, take, refl, ap, subst, ◌∙◌}
use Rattle.rsl_accounts.specs.declared.rules.Rules.{Rules}
use Rattle.rsl_event.specs.declared.event.Event.{Event}
use Rattle.rsl_session.specs.Book.{Book, new_book}
use Rattle.rsl_session.specs.BookLaws.{BooksAreThoseOfThePast, BooksHoldThePlacesOfTheRule, DecisionLaw}
use Rattle.rsl_session.specs.BookStep.{book_after, step}
use Rattle.rsl_session.specs.Rule.{past_of}
use Rattle.rsl_session.proofs.Callers.{IsRuled-past_of}
use Rattle.rsl_shard.specs.Moves.{own_in}
use Rattle.rsl_shard.specs.Restep.{book_of_entry}
use Rattle.rsl_shard.specs.declared.line.Line.{Line}
use Rattle.rsl_steps.specs.Run.{decision_after}
use Rattle.rld_books.specs.Server.{journal_of, new_server}
use Rattle.rld_lives.specs.Within.{HistoriesOpenWithinLimits, HistoriesStayWithinLimits, after_own}
use Rattle.rld_lives.specs.Lives.{LivesObeyTheRule}
use Rattle.rld_lives.proofs.Openings.{new_book_in}

module _ (opens : HistoriesOpenWithinLimits) (stays : HistoriesStayWithinLimits) (decides : DecisionLaw) (are_of : BooksAreThoseOfThePast) (hold : BooksHoldThePlacesOfTheRule) where
  -- a book that began new decides as the rule does
  decided_so : (rules : Rules) (events : List Event) (event : Event) → (step rules (book_after rules new_book events) event).1 ≡ decision_after rules events event
  unfolding decision_after
  decided_so rules events event =
      ap (λ (book : Book). (step rules book event).1) (are_of rules events) ∙ decides rules (past_of rules events) event (IsRuled-past_of rules events)

  pub lives_obey : LivesObeyTheRule
  lives_obey config account entry history limits there =
      let lines : List Line = journal_of (new_server config) history in
      let goes = (stays config (new_server config) history limits (opens.new config limits)).each account entry (book_of_entry entry) there (new_book_in config account entry there) in
      record {
        decided = λ n line event at own. goes.decided n line event at own ∙ decided_so entry.rules (own_in account (take n lines)) event;
        ruled = after_own account (book_of_entry entry) lines;
        there = goes.there;
        ruled_by = refl;
        book = are_of entry.rules (own_in account lines);
        places = hold entry.rules (own_in account lines);
        never_more = λ n. subst (λ (places : ℕ). places ≤ entry.rules.places) (hold entry.rules (own_in account (take n lines))) (goes.never_more n).limit;
      }
