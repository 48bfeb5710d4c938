-- Books that began new answer as looking back does.
use Rattle.std.proofs.Common.{◌≡◌, ℕ, List, [], ◌∷◌, Option, Some, None, Result, Ok, Err, refl, sym, ap, ◌∙◌}
use Rattle.std.specs.Prelude.{slice_get}
use Rattle.std.specs.Option.{option_map_or}
use Rattle.rsl_accounts.specs.Configuration.{Configuration, client_number}
use Rattle.rsl_accounts.specs.declared.entry.Entry.{Entry as Account}
use Rattle.rsl_accounts.specs.declared.rules.Rules.{Rules}
use Rattle.rsl_event.specs.Answer.{said}
use Rattle.rsl_event.specs.Meaning.{meaning}
use Rattle.rsl_event.specs.declared.event.Decision.{Decision}
use Rattle.rsl_event.specs.declared.event.Decision.TheVariants.{Done}
use Rattle.rsl_event.specs.declared.event.Event.{Event}
use Rattle.rsl_event.specs.declared.event.Source.{Source}
use Rattle.rsl_event.specs.declared.meaning.Dropped.{Dropped}
use Rattle.rsl_event.specs.declared.meaning.Meaning.{Meaning}
use Rattle.rsl_event.specs.declared.meaning.Meaning.TheVariants.{Bare, Reject, Own, Restart, Stray}
use Rattle.rsl_session.specs.Book.{Book, new_book}
use Rattle.rsl_session.specs.BookLaws.{BooksAreThoseOfThePast, DecisionLaw}
use Rattle.rsl_session.specs.BookStep.{book_after, step}
use Rattle.rsl_session.specs.Past.{Past}
use Rattle.rsl_session.specs.Rule.{IsRuled, entry_of, past_from, past_of}
use Rattle.rsl_wire.specs.Packet.{packet_of}
use Rattle.rsl_steps.specs.Books.{answer_by_book, answer_with_book, account_book, decision_by_book}
use Rattle.rsl_steps.specs.Own.{own}
use Rattle.rsl_steps.specs.Run.{answer_after, answer_by, decision_after, decision_on, octets_by}
use Rattle.rsl_steps.specs.declared.step.Answer.TheVariants as answers
use Rattle.rsl_steps.specs.declared.step.Step.{Step}
use Rattle.rsl_steps.specs.declared.step.Step.TheVariants as steps
use Rattle.rsl_steps.specs.declared.step.Step.TheVariants.{Datagram}

ruled_more : (rules : Rules) (past : Past) (event : Event) → IsRuled rules past → IsRuled rules (entry_of rules past event ∷ past)
unfolding IsRuled entry_of
ruled_more rules past event before = (refl, before)

ruled_from : (rules : Rules) (past : Past) (events : List Event) → IsRuled rules past → IsRuled rules (past_from rules past events)
unfolding past_from
ruled_from rules past [] ruled = ruled
ruled_from rules past (event ∷ events) ruled = ruled_from rules (entry_of rules past event ∷ past) events (ruled_more rules past event ruled)

ruled_none : (rules : Rules) → IsRuled rules []
unfolding IsRuled
ruled_none rules = tt

-- the past of a list of events follows the rule
ruled_of : (rules : Rules) (events : List Event) → IsRuled rules (past_of rules events)
unfolding past_of
ruled_of rules events = ruled_from rules [] events (ruled_none rules)

module _ (decides : DecisionLaw) (are_of : BooksAreThoseOfThePast) where
  -- a book that began new decides as looking back does
  pub book_decides : (rules : Rules) (events : List Event) (event : Event) → (step rules (book_after rules new_book events) event).1 ≡ decision_after rules events event
  unfolding decision_after
  book_decides rules events event =
      ap (λ (book : Book). (step rules book event).1) (are_of rules events) ∙ decides rules (past_of rules events) event (ruled_of rules events)

  same_decision : (config : Configuration) (boot : ℕ) (before : List Step) (moment : ℕ) (found : Meaning) → decision_on config boot before moment found ≡ decision_by_book config boot before moment found
  same_decision config boot before moment Bare = refl
  same_decision config boot before moment Reject = refl
  same_decision config boot before moment (Restart nas delay) = refl
  same_decision config boot before moment (Stray note) = refl
  same_decision config boot before moment (Own account act) = by (slice_get config.accounts account)
    where
      by : (o : Option Account)
          → option_map_or (λ (entry : Account). decision_after entry.rules (own config boot account before) (record { moment = moment; act = act })) o Done
          ≡ option_map_or (λ (entry : Account). (step entry.rules (account_book config boot account before entry.rules) (record { moment = moment; act = act })).1) o Done
      by None = refl
      by (Some entry) = sym (book_decides entry.rules (own config boot account before) (record { moment = moment; act = act }))

  same_by : (config : Configuration) (boot : ℕ) (before : List Step) (moment : ℕ) (source : Source) (datagram : List ℕ) (r : Result Meaning Dropped)
      → answer_by config boot before moment source datagram r ≡ answer_with_book config boot before moment source datagram r
  same_by config boot before moment source datagram (Err dropped) = refl
  same_by config boot before moment source datagram (Ok found) =
      ap (λ (decision : Decision). answers.Reply (said found decision) (octets_by config boot found decision (packet_of datagram) (client_number config source.address)))
      (same_decision config boot before moment found)

  pub same_answer : (config : Configuration) (boot : ℕ) (before : List Step) (step : Step) → answer_by_book config boot before step ≡ answer_after config boot before step
  same_answer config boot before (steps.Sweep shard moment nas delay) = refl
  same_answer config boot before (steps.Tick shard moment) = refl
  same_answer config boot before (Datagram moment port source octets) = sym (same_by config boot before moment source octets (meaning config boot port source octets))
