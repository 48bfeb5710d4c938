-- The fault of the program for words that are not taken.
use Rattle.rld_words.specs.declared.fault.WordsFault.{WordsFault}
use Rattle.rld_words.specs.declared.fault.WordsFault.TheVariants as words
use Rattle.rld_commands.specs.declared.fault.Fault.{Fault}
use Rattle.rld_commands.specs.declared.fault.Fault.TheVariants.{Usage, NoMemory}

abbrev pub fault_of_words : WordsFault → Fault
fault_of_words (words.Misuse misuse) = Usage misuse
fault_of_words words.NoMemory = NoMemory
