-- Why a command is not done.
use Rattle.std.specs.Prelude.{◌≡◌, ⊤, ℕ, List, Option, Some, None, Err}
use Rattle.rsl_accounts.specs.Configuration.{Configuration, account_number, client_number}
use Rattle.rld_books.specs.Server.{ServerSeen}
use Rattle.rld_control.specs.declared.disconnected.DisconnectFault.{DisconnectFault}
use Rattle.rld_control.specs.declared.fault.FreeFault.{FreeFault}
use Rattle.rld_control.specs.declared.fault.FreeFault.TheVariants.{UnknownAccount, UnknownClient}
use Rattle.rld_control.specs.declared.named.NamedServer.{NamedServer}
use Rattle.rld_control.specs.declared.named.NamedSession.{NamedSession}
use Rattle.rld_state.specs.Disconnecting.{GoesTo}
use Rattle.rld_serve.specs.declared.ask_fault.AskFault.{AskFault}
use Rattle.rld_serve.specs.declared.ask_fault.AskFault.TheVariants as faults

-- some accounts have none of this name, or no client of this address
pub record HasNoAccount (name : List ℕ) : Type 0 where
  pub config : Configuration
  pub unknown : account_number config name ≡ None

pub record HasNoClient (address : List ℕ) : Type 0 where
  pub config : Configuration
  pub unknown : client_number config address ≡ None

-- an account or a client is called unknown only where some accounts have none
abbrev pub IsUnknownIn : NamedSession → FreeFault → Type 0
IsUnknownIn named UnknownAccount = HasNoAccount named.account
IsUnknownIn named UnknownClient = HasNoClient named.client
IsUnknownIn named _ = ⊤

abbrev pub IsUnknownServer : NamedServer → FreeFault → Type 0
IsUnknownServer named UnknownClient = HasNoClient named.client
IsUnknownServer named _ = ⊤

-- why nothing is told as freed: it was not recorded, or nothing can be named so
abbrev pub IsWhyNotFreed : (unrecorded : Type 0) → (unnamed : FreeFault → Type 0) → AskFault → Type 0
IsWhyNotFreed unrecorded unnamed (faults.Free fault) = unnamed fault
IsWhyNotFreed unrecorded unnamed faults.Unrecorded = unrecorded
IsWhyNotFreed unrecorded unnamed faults.NoMemory = ⊤
IsWhyNotFreed unrecorded unnamed _ = ⊥

-- why the links of the account with this name are not shown
abbrev pub IsWhyNoSessions : (name : List ℕ) → AskFault → Type 0
IsWhyNoSessions name faults.UnknownAccount = HasNoAccount name
IsWhyNoSessions name faults.NoMemory = ⊤
IsWhyNoSessions name _ = ⊥

-- the account with which a page of links begins is there no more
abbrev pub HasChanged : (from : Option (List ℕ)) → Type 0
HasChanged None = ⊥
HasChanged (Some name) = HasNoAccount name

abbrev pub IsWhyNoPage : (from : Option (List ℕ)) → AskFault → Type 0
IsWhyNoPage from faults.Changed = HasChanged from
IsWhyNoPage from faults.NoMemory = ⊤
IsWhyNoPage from _ = ⊥

-- the request for a session went nowhere for this reason, by some accounts and books
pub record WentNowhere (named : NamedSession) (fault : DisconnectFault) : Type 0 where
  pub config : Configuration
  pub books : ServerSeen
  pub goes : GoesTo config books named (Err fault)

-- why no access server is asked to disconnect a session
abbrev pub IsWhyNotOrdered : NamedSession → AskFault → Type 0
IsWhyNotOrdered named (faults.Free fault) = IsUnknownIn named fault
IsWhyNotOrdered named (faults.Disconnect fault) = WentNowhere named fault
IsWhyNotOrdered named faults.NoMemory = ⊤
IsWhyNotOrdered named _ = ⊥
