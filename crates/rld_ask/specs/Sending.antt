-- What a connection gives of a request, and what is sent in answer to it.
use Rattle.std.specs.Prelude.{◌≡◌, ◌⊎◌, ⊤, drop, ℕ, List, [], ◌++◌, codes, Option, Some, None, Result, Ok, Err}
use Rattle.http1.specs.declared.server.Server.{Server}
use Rattle.rsl_reply.specs.declared.dictionary.Dictionary.{Dictionary}
use Rattle.rld_attributes.specs.Listed.{attributes_of}
use Rattle.rld_ask.specs.Refusal as refusals
use Rattle.rld_ask.specs.Response.{response_octets}
use Rattle.rld_ask.specs.Form.{fault_text, form_of}
use Rattle.rld_ask.specs.Outcome as outcomes
use Rattle.rld_ask.specs.Reply.{json_of}
use Rattle.rld_ask.specs.declared.ask_connection.AskConnection.{AskConnection}
use Rattle.rld_ask.specs.declared.ask_connection.Phase.{Phase}
use Rattle.rld_ask.specs.declared.ask_connection.Phase.TheVariants.{Closes, Ends, Rests, Waits}
use Rattle.rld_ask.specs.declared.ask_connection.Turn.{Turn}
use Rattle.rld_ask.specs.declared.ask_connection.Turn.TheVariants.{Asks, GoesOn}
use Rattle.rld_ask.specs.declared.refusal.Refusal.{Refusal}
use Rattle.rld_ask.specs.declared.asked.Answer.{Answer}
use Rattle.rld_ask.specs.declared.form.AskForm.{AskForm}
use Rattle.rld_ask.specs.declared.fault.FormFault.{FormFault}
use Rattle.rld_ask.specs.declared.outcome.Outcome.{Outcome}
use Rattle.rld_ask.specs.declared.outcome.Outcome.TheVariants.{Accepted, Unanswered}

-- an ask that was not refused by its head waits for its answer
pub record IsAsking (connection : AskConnection) (ask : AskForm) : Type 0 where
  pub waits : connection.phase ≡ Waits
  pub taken : connection.refusal ≡ None
  pub asks : form_of connection.form.items ≡ Ok ask

-- what a connection does next where a request has ended: the ask of a form that is not refused waits
abbrev pub ends_so : Option Refusal → Result AskForm FormFault → Turn
ends_so (Some refusal) form = GoesOn
ends_so None (Ok ask) = Asks ask
ends_so None (Err fault) = GoesOn

-- what is sent at once
abbrev pub sent_for : Server → Option Refusal → Result AskForm FormFault → List ℕ
sent_for server (Some refusal) form = response_octets server (refusals.status_of refusal) (refusals.text_of refusal)
sent_for server None (Ok ask) = []
sent_for server None (Err fault) = response_octets server 400 (fault_text fault ++ codes "\n")

-- a connection goes on with the next request, or with none
abbrev pub HasResponded : Phase → Type 0
HasResponded Rests = ⊤
HasResponded Closes = ⊤
HasResponded _ = ⊥

-- ---- the answer to an ask

-- what is told of it: the reply where it is accepted, and else what became of it
abbrev pub text_of : Dictionary → Outcome → (reply : List ℕ) → List ℕ
text_of names Accepted reply = json_of names (attributes_of reply)
text_of names outcome reply = outcomes.text_of outcome ++ codes "\n"

abbrev pub status_told : Option Answer → ℕ
status_told None = outcomes.status_of Unanswered
status_told (Some answer) = outcomes.status_of answer.outcome

abbrev pub text_told : Dictionary → Option Answer → List ℕ
text_told names None = text_of names Unanswered []
text_told names (Some answer) = text_of names answer.outcome answer.reply

-- what is left of octets to be sent, once some have gone
pub record IsRestOf (whole rest : List ℕ) : Type 0 where
  pub sent : ℕ
  pub is : rest ≡ drop sent whole

-- a connection is answered so, of which some may have gone; or it ends
abbrev pub IsTold : Dictionary → AskConnection → Option Answer → AskConnection → Type 0
IsTold names old answer new =
    (new.phase ≡ Ends)
    ⊎ IsRestOf (old.output.items ++ response_octets old.server (status_told answer) (text_told names answer)) new.output.items

-- a turn that ends with an ask
abbrev pub IsAsk : Turn → Type 0
IsAsk (Asks ask) = ⊤
IsAsk _ = ⊥

abbrev pub GivesAsk : {E : Type 0} → Result Turn E → Type 0
GivesAsk (Ok turn) = IsAsk turn
GivesAsk (Err error) = ⊥
