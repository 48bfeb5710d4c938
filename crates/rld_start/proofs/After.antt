-- A generation that begins comes after each one whose log is there.
use Rattle.std.proofs.Common.{◌≡◌, ◌+◌, ◌≤◌, List, Contains, arith}
use Rattle.rld_folder.specs.Newest.{Precedes}
use Rattle.rld_folder.specs.declared.name.FileName.{FileName}
use Rattle.rld_folder.specs.declared.name.FileName.TheVariants.{Log}
use Rattle.rld_folder.specs.declared.name.Generation.{Generation}
use Rattle.rld_folder.specs.declared.name.Generation.TheVariants.{Former, Numbered}
use Rattle.rld_spelling.specs.declared.header.Header.{Header}
use Rattle.rld_start.specs.NextHeaders.{IsNewNumber}
use Rattle.rld_start.specs.Numbers.{greatest_by, number_of}
use Rattle.rld_start.proofs.Greatest.{at_most}

-- under the number after the greatest
pub after_all : (files : List FileName) (one : Generation) (next : Header) → Contains files (Log one)
    → IsNewNumber files next → Precedes one (Numbered next.generation)
after_all files (Former era number) next there is = tt
after_all files (Numbered number) next there is =
    let most : number_of (Log (Numbered number)) ≤ greatest_by number_of files = at_most number_of files (Log (Numbered number)) there in
    omega (arith, most, is)
