-- The faults of the files that a server is started with.
use Rattle.std.specs.Prelude.{◌≡◌, ⊤, ℕ, List, Option, string_bytes}
use Rattle.std.specs.Option.{option_or}
use Rattle.rld_config.specs.Server.{asker_fault, shadowed_client, unknown_client, unsigned_client}
use Rattle.rld_config.specs.declared.ask.AskSettings.{AskSettings}
use Rattle.rld_config.specs.declared.fault.ServerFault.{ServerFault}
use Rattle.rld_networks.specs.declared.network.Network.{Network}
use Rattle.rsl_accounts.specs.Configuration.{Configuration}
use Rattle.rld_commands.specs.declared.fault.Fault.{Fault}
use Rattle.rld_commands.specs.declared.fault.Fault.TheVariants.{BadFile, NoMemory}
use Rattle.rld_commands.specs.declared.wrong.Wrong.{Wrong}

-- such a fault is that of the file with this name; or memory is refused
abbrev pub IsOfFile : (name : List ℕ) → Fault → Type 0
IsOfFile name (BadFile bad) = string_bytes bad.name ≡ name
IsOfFile name NoMemory = ⊤
IsOfFile name _ = ⊥

-- this is wrong with that file
abbrev pub IsBadFile : (name : List ℕ) → Wrong → Fault → Type 0
IsBadFile name wrong (BadFile bad) = (string_bytes bad.name ≡ name) × (bad.wrong ≡ wrong)
IsBadFile name wrong NoMemory = ⊤
IsBadFile name wrong _ = ⊥

-- the first fault of a server's file beside an account file
abbrev pub misfit : List Network → Option AskSettings → Configuration → Option ServerFault
misfit networks ask config =
    option_or (unknown_client networks config)
    (option_or (unsigned_client networks config)
    (option_or (shadowed_client networks config) (asker_fault ask config)))
