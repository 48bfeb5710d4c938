-- The message of a starting server on what it found in its folder.
use Rattle.std.specs.Prelude.{ℕ, List, [], ◌++◌, ◌==◌, if◌then◌else◌, codes, decimal, Option, None, Some}
use Rattle.rld_folder.specs.declared.name.Generation.{Generation}
use Rattle.rld_folder.specs.declared.name.Generation.TheVariants.{Former, Numbered}
use Rattle.rld_start.specs.declared.count.Found.{Found}

-- a text and a number
abbrev pub numbered : (text : List ℕ) → (number : ℕ) → List ℕ
numbered text number = text ++ decimal number

-- the number of a generation
abbrev pub generation_text : Generation → List ℕ
generation_text (Former era number) = numbered (codes "generation ") number
generation_text (Numbered number) = numbered (codes "generation ") number

-- the generation that the server goes on from, if there is one
abbrev pub from_text : Option Generation → List ℕ
from_text None = codes "new history"
from_text (Some generation) = generation_text generation

-- what was cut off of the log, if anything
abbrev pub torn_text : (torn : ℕ) → List ℕ
torn_text torn =
    if torn == 0 then [] else numbered (codes ", torn end of ") torn ++ codes " octets cut off"

-- how many sessions go on with other accounts, of those that were held before, on a line of its own
abbrev pub changed_text : (sessions : ℕ) → (held : Option ℕ) → List ℕ
changed_text sessions None = []
changed_text sessions (Some held) =
    numbered (codes "\naccounts changed: ") sessions
    ++ numbered (codes " of ") held
    ++ codes " sessions go on"

-- how many seconds the system's clock is behind the books of the folder, on a line of its own
abbrev pub behind_text : (behind : Option ℕ) → List ℕ
behind_text None = []
behind_text (Some secs) =
    numbered (codes "\nclock ") secs ++ codes " s behind: no deadline passes until it is there"

abbrev pub greeting : Found → List ℕ
greeting found =
    from_text found.from
    ++ numbered (codes ": ") found.sessions
    ++ codes " sessions"
    ++ torn_text found.torn
    ++ changed_text found.sessions found.held
    ++ behind_text found.behind
