-- What an operator hears of his command.
use Rattle.std.specs.Prelude.{◌≡◌, ◌⊎◌, ℕ, List, codes, Option, Some, None}
use Rattle.rld_ask.specs.Form.{form_of}
use Rattle.rld_control.specs.declared.command.Command.{Command}
use Rattle.rld_control.specs.declared.command.Command.TheVariants as commands
use Rattle.rld_control.specs.declared.named.NamedSession.{NamedSession}
use Rattle.rld_networks.specs.declared.network.Network.{Network}
use Rattle.rld_state.specs.Freeing.{TellsFreed, WasFreed, WereFreed}
use Rattle.rld_state.specs.declared.freeing.Freed.TheVariants as freeds
use Rattle.rld_serve.specs.Answering.{IsDone, IsRefused, ShowsAccounts, ShowsPage, ShowsReady, ShowsSessions, ShowsStatus}
use Rattle.rld_serve.specs.AskFault.{octets_of_fault}
use Rattle.rsl_reply.specs.declared.dictionary.Dictionary.{Dictionary}
use Rattle.rld_serve.specs.Asked.{IsToldOf, IsUnasked}
use Rattle.rld_serve.specs.Refusing.{IsUnknownIn, IsUnknownServer, IsWhyNoPage, IsWhyNoSessions, IsWhyNotFreed}
use Rattle.rld_serve.specs.declared.ask_fault.AskFault.{AskFault}
use Rattle.rld_serve.specs.declared.ask_fault.AskFault.TheVariants.{NoMemory}
use Rattle.rld_serve.specs.declared.asking.Seat.{Seat}

-- the session that a command has disconnected, if it does that
abbrev pub session_of : Command → Option NamedSession
session_of (commands.Disconnect named) = Some named
session_of _ = None

-- Such octets are its answer, of a server with these networks, to which asks come in at this seat. One that has a
-- session disconnected has none at once.
abbrev pub Answers : Dictionary → List Network → Option Seat → Command → (octets : List ℕ) → Type 0
Answers names networks seat (commands.Status form) octets = ShowsStatus form octets
Answers names networks seat commands.Ready octets = ShowsReady octets
Answers names networks seat (commands.Accounts form selection) octets = ShowsAccounts form selection octets
Answers names networks seat (commands.Sessions form name) octets = ShowsSessions form name octets
Answers names networks seat (commands.Links listing) octets = ShowsPage listing octets
Answers names networks seat (commands.Free named) octets = TellsFreed (WasFreed named) octets
Answers names networks seat (commands.FreeServer named) octets = TellsFreed (WereFreed named) octets
Answers names networks seat (commands.Disconnect named) octets = ⊥
Answers names networks seat (commands.Ask form) octets = IsToldOf names networks seat (form_of form) octets
Answers names networks seat commands.Reload octets = IsDone octets ⊎ IsRefused octets
Answers names networks seat commands.Stop octets = octets ≡ codes "ok\n"

-- such a fault is why it is not done
abbrev pub IsFaultFor : Command → AskFault → Type 0
IsFaultFor (commands.Sessions form name) fault = IsWhyNoSessions name fault
IsFaultFor (commands.Links listing) fault = IsWhyNoPage listing.from fault
IsFaultFor (commands.Free named) fault = IsWhyNotFreed (WasFreed named freeds.Unrecorded) (IsUnknownIn named) fault
IsFaultFor (commands.FreeServer named) fault =
    IsWhyNotFreed (WereFreed named freeds.Unrecorded) (IsUnknownServer named) fault
IsFaultFor (commands.Disconnect named) fault = ⊥
IsFaultFor (commands.Ask form) fault = IsUnasked fault
IsFaultFor _ fault = fault ≡ NoMemory

-- it was not done, and why is told
pub record IsToldWhyNot (command : Command) (octets : List ℕ) : Type 0 where
  pub fault : AskFault
  pub why : IsFaultFor command fault
  pub told : octets ≡ octets_of_fault fault

-- such octets are told whoever gave the command
abbrev pub IsHeardOf : Dictionary → List Network → Option Seat → Command → (octets : List ℕ) → Type 0
IsHeardOf names networks seat command octets = Answers names networks seat command octets ⊎ IsToldWhyNot command octets
