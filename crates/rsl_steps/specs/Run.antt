-- What a run answers, from datagram to reply: each step is answered from its own account's past
-- alone. The steps before one are a list, the newest first.
use Rattle.std.specs.Prelude.{◌≡◌, ℕ, List, [], ◌∷◌, slice_get, Option, Some, Result, Ok, Err}
use Rattle.std.specs.Option.{option_map_or}
use Rattle.rsl_accounts.specs.Configuration.{Configuration, client_number}
use Rattle.rsl_accounts.specs.declared.rules.Rules.{Rules}
use Rattle.rsl_session.specs.Rule.{decision_of, outcome_of, past_of}
use Rattle.rsl_event.specs.declared.event.Event.{Event}
use Rattle.rsl_wire.specs.Packet.{Fields, packet_of}
use Rattle.rsl_wire.specs.declared.packet.WireFault.{WireFault}
use Rattle.rsl_event.specs.Answer.{answer, said}
use Rattle.rsl_event.specs.Meaning.{meaning}
use Rattle.rsl_event.specs.declared.event.Source.{Source}
use Rattle.rsl_event.specs.declared.event.Decision.{Decision}
use Rattle.rsl_event.specs.declared.event.Decision.TheVariants.{Done}
use Rattle.rsl_event.specs.declared.meaning.Dropped.{Dropped}
use Rattle.rsl_event.specs.declared.meaning.Meaning.{Meaning}
use Rattle.rsl_event.specs.declared.meaning.Meaning.TheVariants.{Own}
use Rattle.rsl_steps.specs.Own.{own}
use Rattle.rsl_steps.specs.declared.step.Answer.{Answer}
use Rattle.rsl_steps.specs.declared.step.Answer.TheVariants as answers
use Rattle.rsl_steps.specs.declared.step.Step.{Step}
use Rattle.rsl_steps.specs.declared.step.Step.TheVariants as steps
use Rattle.rsl_steps.specs.declared.step.Step.TheVariants.{Datagram}

-- the decision on an event after events of an account with these rules
unfoldable pub decision_after : Rules → List Event → Event → Decision
decision_after rules events event = decision_of (outcome_of rules (past_of rules events) event)

-- the decision on a meaning: that of the session rule on the account's own events before it, and on
-- nothing else
abbrev pub decision_on : Configuration → (boot : ℕ) → (before : List Step) → (moment : ℕ) → Meaning
    → Decision
decision_on config boot before moment (Own account act) =
    option_map_or
    (λ entry. decision_after entry.rules (own config boot account before)
    (record { moment = moment; act = act })) (slice_get config.accounts account) Done
decision_on config boot before moment _ = Done

-- the octets of the reply to a datagram that has a packet and a client, as every one with a meaning
-- has
abbrev pub octets_by : Configuration → (boot : ℕ) → Meaning → Decision → Result Fields WireFault
    → (client : Option ℕ) → List ℕ
octets_by config boot meaning decision (Ok fields) (Some client) =
    answer config boot client fields meaning decision
octets_by config boot meaning decision _ _ = []

abbrev pub answer_by : Configuration → (boot : ℕ) → (before : List Step) → (moment : ℕ) → Source
    → (datagram : List ℕ) → Result Meaning Dropped → Answer
answer_by config boot before moment source datagram (Err dropped) = answers.Dropped dropped
answer_by config boot before moment source datagram (Ok meaning) =
    let decision = decision_on config boot before moment meaning in
    answers.Reply (said meaning decision)
    (octets_by config boot meaning decision (packet_of datagram)
    (client_number config source.address))

-- the answer to a step after others
abbrev pub answer_after : Configuration → (boot : ℕ) → (before : List Step) → Step → Answer
answer_after config boot before (Datagram moment port source octets) =
    answer_by config boot before moment source octets (meaning config boot port source octets)
answer_after config boot before (steps.Sweep shard moment nas delay) = answers.Quiet
answer_after config boot before (steps.Tick shard moment) = answers.Quiet

-- Each step has its answer. A refused one counts as if it had not come.
unfoldable pub AreAnswers : Configuration → (boot : ℕ) → (before : List Step) → List Step
    → List Answer → Type 0
AreAnswers config boot before [] [] = Unit {0}
AreAnswers config boot before (step ∷ steps) (answers.Refused ∷ rest) =
    AreAnswers config boot before steps rest
AreAnswers config boot before (step ∷ steps) (answer ∷ rest) =
    (answer ≡ answer_after config boot before step)
    × AreAnswers config boot (step ∷ before) steps rest
AreAnswers config boot before [] (answer ∷ rest) = ⊥
AreAnswers config boot before (step ∷ steps) [] = ⊥

-- the steps that were made, newest first
unfoldable pub steps_taken : (before : List Step) → List Step → List Answer → List Step
steps_taken before [] rest = before
steps_taken before (step ∷ steps) [] = before
steps_taken before (step ∷ steps) (answers.Refused ∷ rest) = steps_taken before steps rest
steps_taken before (step ∷ steps) (answer ∷ rest) = steps_taken (step ∷ before) steps rest
