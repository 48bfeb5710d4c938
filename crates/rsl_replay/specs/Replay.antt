-- What a replay writes for a script, and why it fails.
use Rattle.std.specs.Prelude.{◌≡◌, ℕ, ◌<◌, ◌≤◌, ⊤, List, [], ◌++◌, length, Ok, Err}
use Rattle.rsl_accounts.specs.Configuration.{Configuration, configuration_of}
use Rattle.rsl_accounts.specs.declared.fault.ConfigFault.{ConfigFault}
use Rattle.rsl_script.specs.Script.{Contents, script_of}
use Rattle.rsl_script.specs.declared.fault.ScriptFault.TheVariants.{Line as wrong_line}
use Rattle.rsl_replay.specs.Lines.{printed_lines}
use Rattle.rsl_replay.specs.Report.{report_after}
use Rattle.rsl_steps.specs.Run.{AreAnswers, steps_taken}
use Rattle.rsl_replay.specs.Steps.{steps_of_lines}
use Rattle.rsl_replay.specs.declared.fault.ReplayFault.{ReplayFault}
use Rattle.rsl_replay.specs.declared.fault.ReplayFault.TheVariants.{Line, TooLong, Config, InputOutput, NoMemory}
use Rattle.rsl_steps.specs.declared.step.Answer.{Answer}

-- the most octets of a script
abbrev pub most_octets : ℕ
most_octets = 1048576

-- the boot number of a server that replays a script
abbrev pub replay_boot : ℕ
replay_boot = 1

-- The text is a right script of a right configuration, and not too long; each step of its event
-- lines has its answer. What is written says for each event line what it was answered, and then for
-- each account what it holds after the steps that were made: a refused one counts as if it had not
-- come.
pub record IsReplayed (text written : List ℕ) : Type 0 where
  pub script : Contents
  pub config : Configuration
  pub answers : List Answer
  pub short : length text ≤ most_octets
  pub read : script_of text ≡ Ok script
  pub made : configuration_of script.settings script.clients script.accounts ≡ Ok config
  pub answered : AreAnswers config replay_boot [] (steps_of_lines config replay_boot script.events)
      answers
  pub lines_and_report : written ≡ printed_lines config script.events answers
      ++ report_after config replay_boot
      (steps_taken [] (steps_of_lines config replay_boot script.events) answers)

-- a right script whose configuration has the fault
pub record IsRefused (text : List ℕ) (fault : ConfigFault) : Type 0 where
  pub script : Contents
  pub read : script_of text ≡ Ok script
  pub refused : configuration_of script.settings script.clients script.accounts ≡ Err fault

-- A fault of a text is there: too long comes first, then the first wrong line, then the
-- configuration's fault. Reads, writes and growths may fail at any time.
abbrev pub IsFaultOf : (text : List ℕ) → ReplayFault → Type 0
IsFaultOf text TooLong = most_octets < length text
IsFaultOf text (Line number) =
    (length text ≤ most_octets) × (script_of text ≡ Err (wrong_line number))
IsFaultOf text (Config fault) = (length text ≤ most_octets) × IsRefused text fault
IsFaultOf text InputOutput = ⊤
IsFaultOf text NoMemory = ⊤
