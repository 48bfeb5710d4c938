-- What an operator is told of his ask.
use Rattle.std.specs.Prelude.{◌≡◌, ◌≢◌, ⊤, ℕ, List, [], ◌∷◌, ◌++◌, codes, Option, Some, Result, Ok, Err, slice_get}
use Rattle.std.specs.Option.{option_map}
use Rattle.rld_ask.specs.Form.{fault_text}
use Rattle.rld_ask.specs.declared.asked.Answer.{Answer}
use Rattle.rld_ask.specs.declared.fault.FormFault.{FormFault}
use Rattle.rld_ask.specs.declared.form.AskForm.{AskForm}
use Rattle.rld_ask.specs.declared.outcome.Outcome.TheVariants.{Accepted}
use Rattle.rld_networks.specs.declared.network.Network.{Network}
use Rattle.rsl_reply.specs.declared.dictionary.Dictionary.{Dictionary}
use Rattle.rld_serve.specs.Answering.{TellsAccepted}
use Rattle.rld_current.specs.Asking.{AreAnswered}
use Rattle.rld_serve.specs.declared.ask_fault.AskFault.{AskFault}
use Rattle.rld_serve.specs.declared.ask_fault.AskFault.TheVariants.{NoAsks, NoMemory, NotAccepted}
use Rattle.rld_current.specs.declared.ask_watch.Noted.{Noted}
use Rattle.rld_serve.specs.declared.asking.Seat.{Seat}

-- an ask that comes from this client is answered, by what is kept of how its request ended, and told as accepted
pub record TellsFirst (names : Dictionary) (networks : List Network) (client : List ℕ) (noted : List Noted) (ask : AskForm)
    (octets : List ℕ)
    : Type 0 where
  pub answers : List Answer
  pub answer : Answer
  pub first : slice_get answers 0 ≡ Some answer
  pub answered : AreAnswered networks client noted (ask ∷ []) answers
  pub tells : TellsAccepted names answer octets

-- the address of the client that asks come from, if they come in
abbrev pub client_of : Option Seat → Option (List ℕ)
client_of seat = option_map (λ one. one.client) seat

-- what is told of a form: its fault; or of its ask, which comes from the client of this seat, that it is accepted
abbrev pub IsToldOf : Dictionary → List Network → Option Seat → Result AskForm FormFault → (octets : List ℕ) → Type 0
IsToldOf names networks seat (Ok ask) octets =
    (client : List ℕ) × (noted : List Noted) × (client_of seat ≡ Some client)
    × TellsFirst names networks client noted ask octets
IsToldOf names networks seat (Err fault) octets = octets ≡ codes "error " ++ (fault_text fault ++ codes "\n")

-- why an ask is not told as accepted: it is not, no asks come in, or memory is refused
abbrev pub IsUnasked : AskFault → Type 0
IsUnasked (NotAccepted outcome) = outcome ≢ Accepted
IsUnasked NoAsks = ⊤
IsUnasked NoMemory = ⊤
IsUnasked _ = ⊥
