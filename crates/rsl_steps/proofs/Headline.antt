-- What books answered, and the shards after it, by looking back.
use Rattle.std.proofs.Common.{ℕ, ◌%◌, ◌<◌, ◌≤◌, List, [], ◌∷◌, length, take, Option, refl, ap, subst, ◌∙◌, arith}
use Rattle.std.proofs.lemmas.List.{take_all}
use Rattle.std.proofs.lemmas.Nat.{mod_below}
use Rattle.rsl_accounts.specs.Configuration.{Configuration}
use Rattle.rsl_accounts.specs.Limits.{RulesFit}
use Rattle.rsl_accounts.specs.declared.rules.Rules.{Rules}
use Rattle.rsl_event.specs.declared.event.Event.{Event}
use Rattle.rsl_session.specs.Book.{new_book, places_in}
use Rattle.rsl_session.specs.BookLaws.{BooksAreThoseOfThePast, BooksHoldThePlacesOfTheRule, BooksStayWithinTheLimit}
use Rattle.rsl_session.specs.BookStep.{book_after}
use Rattle.rsl_shard.specs.Seen.{ShardSeen}
use Rattle.rsl_steps.specs.Books.{AreAnswersByBooks, account_book}
use Rattle.rsl_steps.specs.Laws.{BooksAnswerAsLookingBack, ShardsObeyTheRule}
use Rattle.rsl_steps.specs.Own.{own}
use Rattle.rsl_steps.specs.Ran.{IsBookOf, book_in_shard}
use Rattle.rsl_steps.specs.Run.{AreAnswers}
use Rattle.rsl_steps.specs.declared.step.Answer.{Answer}
use Rattle.rsl_steps.specs.declared.step.Answer.TheVariants as answers
use Rattle.rsl_steps.specs.declared.step.Step.{Step}
use Rattle.rsl_steps.proofs.Limits.{account_fits}
use Rattle.rsl_steps.proofs.OneMore.{there_is}
use Rattle.rsl_steps.proofs.Shards.{book_in_its_shard}

-- the answers of books are those of looking back
pub looked_back : BooksAnswerAsLookingBack → (config : Configuration) (boot : ℕ) (before all : List Step) (given : List Answer)
    → AreAnswersByBooks config boot before all given → AreAnswers config boot before all given
unfolding AreAnswers AreAnswersByBooks
looked_back law config boot before [] [] are = tt
looked_back law config boot before [] (answer ∷ given) are = absurd are
looked_back law config boot before (step ∷ all) [] are = absurd are
looked_back law config boot before (step ∷ all) (answers.Refused ∷ given) are = looked_back law config boot before all given are
looked_back law config boot before (step ∷ all) (answers.Quiet ∷ given) are =
    (are.0 ∙ law config boot before step, looked_back law config boot (step ∷ before) all given are.1)
looked_back law config boot before (step ∷ all) (answers.Dropped dropped ∷ given) are =
    (are.0 ∙ law config boot before step, looked_back law config boot (step ∷ before) all given are.1)
looked_back law config boot before (step ∷ all) (answers.Reply said octets ∷ given) are =
    (are.0 ∙ law config boot before step, looked_back law config boot (step ∷ before) all given are.1)

module _ (are_of : BooksAreThoseOfThePast) (hold : BooksHoldThePlacesOfTheRule) (stay : BooksStayWithinTheLimit) where
  within : (rules : Rules) (events : List Event) → RulesFit rules → places_in rules (book_after rules new_book events) ≤ rules.places
  within rules events fit =
      subst (λ (some : List Event). places_in rules (book_after rules new_book some) ≤ rules.places) (take_all (length events) events (omega arith))
      (stay rules events (length events) fit)

  book_is : (rules : Rules) (events : List Event) → RulesFit rules → IsBookOf rules events (record { rules = rules; book = book_after rules new_book events })
  book_is rules events fit = record {
    ruled_by = refl;
    stepped = refl;
    looked_back = are_of rules events;
    places = hold rules events;
    limit = within rules events fit;
    never_more = λ n. subst (λ (places : ℕ). places ≤ rules.places) (hold rules (take n events)) (stay rules events n fit);
  }

  pub shards_obey : ShardsObeyTheRule
  shards_obey config boot account entry before shards limits are there =
      let less : account % config.settings.shards < config.settings.shards = mod_below account config.settings.shards (omega (arith, limits.settings.a_shard)) in
      let found = there_is shards (account % config.settings.shards) (omega (arith, less, are.count)) in
      record {
        ruled = record { rules = entry.rules; book = account_book config boot account before entry.rules };
        there = ap (λ (o : Option ShardSeen). book_in_shard o account) found.1
            ∙ book_in_its_shard config boot before account entry found.0 less there (are.each (account % config.settings.shards) found.0 found.1);
        book = book_is entry.rules (own config boot account before) (account_fits config account entry limits there);
      }
