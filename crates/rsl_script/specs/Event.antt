-- What happens on a line: its words after the first are its moment, and then those of its verb.
use Rattle.std.specs.Prelude.{ℕ, List, [], ◌∷◌, Option, None, Some}
use Rattle.rsl_accounts.specs.Address.{address_of}
use Rattle.rsl_event.specs.declared.meaning.Port.{Port}
use Rattle.rsl_script.specs.declared.event_line.EventLine.{EventLine}
use Rattle.rsl_script.specs.declared.event_line.Happening.{Happening}
use Rattle.rsl_script.specs.declared.event_line.Happening.TheVariants as happenings
use Rattle.rsl_script.specs.declared.verb.EventVerb.{EventVerb}
use Rattle.rsl_script.specs.declared.verb.EventVerb.TheVariants.{Access, Accounting, Raw, Tick}
use Rattle.rsl_script.specs.Access.{read_access}
use Rattle.rsl_script.specs.Accounting.{read_accounting}
use Rattle.rsl_script.specs.Reads.{◌>>=◌}
use Rattle.rsl_script.specs.Values.{read_number, read_octets}

-- a datagram: CLIENT HEX
unfoldable pub read_raw : Port → (words : List (List ℕ)) → Option Happening
read_raw port (client ∷ hex ∷ []) = do
  address ← address_of client
  octets ← read_octets hex
  Some (happenings.Raw address port octets)
read_raw port _ = None

-- a tick: no word
unfoldable pub read_tick : (words : List (List ℕ)) → Option Happening
read_tick [] = Some happenings.Tick
read_tick _ = None

-- what the words after the moment say
unfoldable pub read_happening : EventVerb → (words : List (List ℕ)) → Option Happening
read_happening (Access method) words = read_access method words
read_happening (Accounting status) words = read_accounting status words
read_happening (Raw port) words = read_raw port words
read_happening Tick words = read_tick words

-- what the words after the first say
unfoldable pub read_event : EventVerb → (words : List (List ℕ)) → Option EventLine
read_event verb [] = None
read_event verb (moment ∷ rest) = do
  moment ← read_number moment
  happening ← read_happening verb rest
  Some (record { moment = moment; happening = happening })
