-- Sessions that their access servers are to disconnect.
use Rattle.std.specs.Prelude.{◌≡◌, ◌⊎◌, ℕ, List, Result, Ok, Err, IfErr, IfOk}
use Rattle.rsl_accounts.specs.Configuration.{Configuration}
use Rattle.rld_control.specs.Disconnecting.{answer_octets}
use Rattle.rld_control.specs.declared.disconnected.Disconnected.{Disconnected}
use Rattle.rld_control.specs.declared.disconnected.Disconnected.TheVariants.{Done, Unrecorded, Refused}
use Rattle.rld_control.specs.declared.fault.FreeFault.{FreeFault}
use Rattle.rld_control.specs.declared.fault.FreeFault.TheVariants.{UnknownAccount, UnknownClient}
use Rattle.rld_control.specs.declared.named.NamedSession.{NamedSession}
use Rattle.rld_control.specs.declared.answer.DisconnectAnswer.{DisconnectAnswer}
use Rattle.rld_control.specs.declared.answer.DisconnectAnswer.TheVariants.{Ack, Nak}
use Rattle.rld_books.specs.Server.{ServerSeen}
use Rattle.rld_state.specs.Disconnecting.{GoesTo}
use Rattle.rld_state.specs.Freeing.{WasFreed}
use Rattle.rld_state.specs.declared.freeing.Freed.{Freed}
use Rattle.rld_state.specs.declared.freeing.Freed.TheVariants as freeds
use Rattle.rld_serve.specs.AskFault.{octets_of_fault}
use Rattle.rld_serve.specs.Refusing.{IsUnknownIn}
use Rattle.rld_serve.specs.declared.ask_fault.AskFault.TheVariants.{NoMemory}

-- the request for a session went to this port, by these accounts and some books
pub record WentTo (config : Configuration) (named : NamedSession) (port : ℕ) : Type 0 where
  pub books : ServerSeen
  pub goes : GoesTo config books named (Ok port)

-- Once the access server has disconnected a session its place is free where its Stop is recorded, or no link is
-- bound to it. Another account file may have come, with which nothing of it is held.
abbrev pub after_ack : Result Freed FreeFault → Disconnected
after_ack (Ok (freeds.Done recorded)) = Done
after_ack (Ok (freeds.NotHeld unheld)) = Done
after_ack (Err UnknownAccount) = Done
after_ack (Err UnknownClient) = Done
after_ack _ = Unrecorded

pub record EndsFreed (named : NamedSession) (outcome : Disconnected) : Type 0 where
  pub freed : Result Freed FreeFault
  pub was : IfOk freed (WasFreed named)
  pub unknown : IfErr freed (IsUnknownIn named)
  pub is : outcome ≡ after_ack freed

-- what comes of a session to whose request its access server has answered so
abbrev pub IsOutcomeOf : NamedSession → DisconnectAnswer → Disconnected → Type 0
IsOutcomeOf named Ack outcome = EndsFreed named outcome
IsOutcomeOf named (Nak cause) outcome = outcome ≡ Refused cause

-- an outcome is told, unless memory for that was refused
abbrev pub TellsOutcome : Disconnected → (octets : List ℕ) → Type 0
TellsOutcome outcome octets = (octets ≡ answer_octets outcome) ⊎ (octets ≡ octets_of_fault NoMemory)

-- the outcome of a session to whose request its access server has answered so
pub record TellsOutcomeOf (named : NamedSession) (answer : DisconnectAnswer) (octets : List ℕ) : Type 0 where
  pub outcome : Disconnected
  pub outcome_is : IsOutcomeOf named answer outcome
  pub told : TellsOutcome outcome octets
