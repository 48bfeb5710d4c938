-- The result of reading an account file.
use Rattle.std.specs.Prelude.{◌≡◌, ℕ, ◌<◌, ◌≤◌, ⊤, List, length, Result, Ok, Err}
use Rattle.rsl_accounts.specs.Configuration.{Configuration}
use Rattle.rsl_account_file.specs.File.{configuration_of_text}
use Rattle.rsl_accounts.specs.declared.fault.ConfigFault.{ConfigFault}
use Rattle.rsl_accounts.specs.declared.fault.ConfigFault.TheVariants.{NoMemory as config_no_memory}
use Rattle.rsl_reply.specs.declared.dictionary.Dictionary.{Dictionary}
use Rattle.rsl_account_file.specs.declared.file_fault.FileFault.{FileFault}
use Rattle.rsl_account_file.specs.declared.file_fault.FileFault.TheVariants.{Unreadable, TooLong, Config, NoMemory}

-- the most octets that an account file may have
abbrev pub most_octets : ℕ
most_octets = 16777216

-- refused memory is `NoMemory`, and every other fault is the text's
abbrev pub fault_of_config : ConfigFault → FileFault
fault_of_config config_no_memory = NoMemory
fault_of_config fault = Config fault

-- The octets of a file, if they are not too many, give the configuration of their text, or its
-- fault. Reads and growths may fail at any time.
abbrev pub IsFileRead : Dictionary → (text : List ℕ) → Result Configuration FileFault → Type 0
IsFileRead names text (Ok config) =
    (length text ≤ most_octets) × (configuration_of_text names text ≡ Ok config)
IsFileRead names text (Err Unreadable) = ⊤
IsFileRead names text (Err TooLong) = most_octets < length text
IsFileRead names text (Err (Config fault)) =
    (length text ≤ most_octets) × (configuration_of_text names text ≡ Err fault)
IsFileRead names text (Err NoMemory) = ⊤
