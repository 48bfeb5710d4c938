-- What is asked by its line is what was meant.
use Rattle.std.specs.Prelude.{◌≡◌, ℕ, ◌<◌, ◌^◌, List, length, Option, None, Some}
use Rattle.rsl_event.specs.declared.nas.NasName.{NasName}
use Rattle.rsl_event.specs.declared.nas.NasName.TheVariants.{Identifier, Address, Unnamed}
use Rattle.rld_values.specs.Laws.{AreOctets}
use Rattle.rld_control.specs.Command.{command_of, line_of}
use Rattle.rld_control.specs.declared.command.Command.{Command}
use Rattle.rld_control.specs.declared.command.Command.TheVariants.{Status, Ready, Accounts, Sessions, Links, Free, FreeServer, Disconnect, Ask, Reload, Stop}
use Rattle.rld_control.specs.declared.listing.Listing.{Listing}
use Rattle.rld_control.specs.declared.named.NamedServer.{NamedServer}
use Rattle.rld_control.specs.declared.named.NamedSession.{NamedSession}

abbrev pub IsNasName : NasName → Type 0
IsNasName (Identifier name) = AreOctets name
IsNasName (Address address) = AreOctets address
IsNasName Unnamed = Unit {0}

pub record IsNamedSession (named : NamedSession) : Type 0 where
  pub account : AreOctets named.account
  pub four : length named.client ≡ 4
  pub client : AreOctets named.client
  pub nas : IsNasName named.nas
  pub session : AreOctets named.session

abbrev pub IsAddress : List ℕ → Type 0
IsAddress address = (length address ≡ 4) × AreOctets address

pub record IsNamedServer (named : NamedServer) : Type 0 where
  pub client : IsAddress named.client
  pub nas : IsNasName named.nas

-- what is given is of the kind
abbrev pub IfGiven : {A : Type 0} → (A → Type 0) → Option A → Type 0
IfGiven Is None = Unit {0}
IfGiven Is (Some value) = Is value

pub record IsListing (listing : Listing) : Type 0 where
  pub client : IfGiven IsAddress listing.wanted.client
  pub older : listing.wanted.older < 2 ^ 64
  pub nas : IfGiven IsNasName listing.wanted.nas
  pub from : IfGiven AreOctets listing.from

-- names, addresses and ids are octets
abbrev pub IsCommand : Command → Type 0
IsCommand (Sessions form account) = AreOctets account
IsCommand (Links listing) = IsListing listing
IsCommand (Free session) = IsNamedSession session
IsCommand (FreeServer server) = IsNamedServer server
IsCommand (Disconnect session) = IsNamedSession session
IsCommand (Status form) = Unit {0}
IsCommand (Accounts form selection) = Unit {0}
IsCommand (Ask form) = Unit {0}
IsCommand Ready = Unit {0}
IsCommand Reload = Unit {0}
IsCommand Stop = Unit {0}

abbrev pub IsReadBack : Type 0
IsReadBack = (command : Command) → IsCommand command → command_of (line_of command) ≡ Some command
