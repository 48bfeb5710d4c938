-- What a run answers, by books that began new: each step is answered as one step of its own
-- account's book decides, after the account's own earlier events.
use Rattle.std.specs.Prelude.{◌≡◌, ℕ, List, [], ◌∷◌, slice_get, Result, Ok, Err}
use Rattle.std.specs.Option.{option_map_or}
use Rattle.rsl_accounts.specs.Configuration.{Configuration, client_number}
use Rattle.rsl_accounts.specs.declared.rules.Rules.{Rules}
use Rattle.rsl_event.specs.Answer.{said}
use Rattle.rsl_event.specs.Meaning.{meaning}
use Rattle.rsl_event.specs.declared.event.Decision.{Decision}
use Rattle.rsl_event.specs.declared.event.Decision.TheVariants.{Done}
use Rattle.rsl_event.specs.declared.event.Source.{Source}
use Rattle.rsl_event.specs.declared.meaning.Dropped.{Dropped}
use Rattle.rsl_event.specs.declared.meaning.Meaning.{Meaning}
use Rattle.rsl_event.specs.declared.meaning.Meaning.TheVariants.{Own}
use Rattle.rsl_session.specs.Book.{Book, new_book}
use Rattle.rsl_session.specs.BookStep.{book_after, step}
use Rattle.rsl_steps.specs.Own.{own}
use Rattle.rsl_steps.specs.Run.{octets_by}
use Rattle.rsl_wire.specs.Packet.{packet_of}
use Rattle.rsl_steps.specs.declared.step.Answer.{Answer}
use Rattle.rsl_steps.specs.declared.step.Answer.TheVariants as answers
use Rattle.rsl_steps.specs.declared.step.Step.{Step}
use Rattle.rsl_steps.specs.declared.step.Step.TheVariants as steps
use Rattle.rsl_steps.specs.declared.step.Step.TheVariants.{Datagram}

-- the book of an account with these rules, new at first, after its own events among the steps
abbrev pub account_book : Configuration → (boot account : ℕ) → (before : List Step) → Rules → Book
account_book config boot account before rules =
    book_after rules new_book (own config boot account before)

-- the decision on a meaning: that of a step of the account's book
abbrev pub decision_by_book : Configuration → (boot : ℕ) → (before : List Step) → (moment : ℕ)
    → Meaning → Decision
decision_by_book config boot before moment (Own account act) =
    option_map_or
    (λ entry. (step entry.rules (account_book config boot account before entry.rules)
    (record { moment = moment; act = act })).1)
    (slice_get config.accounts account) Done
decision_by_book config boot before moment _ = Done

abbrev pub answer_with_book : Configuration → (boot : ℕ) → (before : List Step) → (moment : ℕ)
    → Source → (datagram : List ℕ) → Result Meaning Dropped → Answer
answer_with_book config boot before moment source datagram (Err dropped) = answers.Dropped dropped
answer_with_book config boot before moment source datagram (Ok meaning) =
    let decision = decision_by_book config boot before moment meaning in
    answers.Reply (said meaning decision)
    (octets_by config boot meaning decision (packet_of datagram)
    (client_number config source.address))

-- the answer to a step after others
abbrev pub answer_by_book : Configuration → (boot : ℕ) → (before : List Step) → Step → Answer
answer_by_book config boot before (Datagram moment port source octets) =
    answer_with_book config boot before moment source octets
    (meaning config boot port source octets)
answer_by_book config boot before (steps.Sweep shard moment nas delay) = answers.Quiet
answer_by_book config boot before (steps.Tick shard moment) = answers.Quiet

-- Each step has its answer. A refused one counts as if it had not come.
unfoldable pub AreAnswersByBooks : Configuration → (boot : ℕ) → (before : List Step) → List Step
    → List Answer → Type 0
AreAnswersByBooks config boot before [] [] = Unit {0}
AreAnswersByBooks config boot before (step ∷ steps) (answers.Refused ∷ rest) =
    AreAnswersByBooks config boot before steps rest
AreAnswersByBooks config boot before (step ∷ steps) (answer ∷ rest) =
    (answer ≡ answer_by_book config boot before step)
    × AreAnswersByBooks config boot (step ∷ before) steps rest
AreAnswersByBooks config boot before [] (answer ∷ rest) = ⊥
AreAnswersByBooks config boot before (step ∷ steps) [] = ⊥
