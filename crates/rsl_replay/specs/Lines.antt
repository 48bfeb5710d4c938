-- What is printed of a script: for each event line a line, with its number counted from 1 and its
-- word.
use Rattle.std.specs.Prelude.{ℕ, ◌+◌, ◌-◌, Bool, true, false, List, [], ◌∷◌, ◌++◌, length, take, drop, codes, slice_get, Option, Some, if◌then◌else◌}
use Rattle.std.specs.Fmt.{decimal}
use Rattle.std.specs.List.{list_any}
use Rattle.rsl_accounts.specs.Configuration.{Configuration}
use Rattle.rsl_event.specs.Dropped.{drop_name}
use Rattle.rsl_event.specs.declared.words.Said.{Said}
use Rattle.rsl_event.specs.declared.words.Said.TheVariants.{Accept, LimitReject, Reject, Account}
use Rattle.rsl_script.specs.declared.event_line.EventLine.{EventLine}
use Rattle.rsl_script.specs.declared.event_line.Happening.{Happening}
use Rattle.rsl_script.specs.declared.event_line.Happening.TheVariants as happenings
use Rattle.rsl_replay.specs.Steps.{step_count}
use Rattle.rsl_steps.specs.declared.step.Answer.{Answer}
use Rattle.rsl_steps.specs.declared.step.Answer.TheVariants as answers
use Rattle.rsl_steps.specs.declared.step.Answer.TheVariants.{Reply}
use Rattle.rsl_replay.specs.declared.word.Word.{Word}
use Rattle.rsl_replay.specs.declared.word.Word.TheVariants as words

abbrev pub said_text : Said → List ℕ
said_text (Accept number) = codes "accept " ++ decimal number
said_text LimitReject = codes "reject limit"
said_text Reject = codes "reject"
said_text Account = codes "account"

abbrev pub word_text : Word → List ℕ
word_text (words.Said said) = said_text said
word_text (words.Dropped dropped) = codes "drop " ++ drop_name dropped
word_text words.Tick = codes "tick"
word_text words.Refused = codes "refused"

-- whether a step was refused
abbrev pub is_refused : Answer → Bool
is_refused answers.Refused = true
is_refused _ = false

-- the word of the answer to a datagram; a quiet one is a tick
abbrev pub answer_word : Option Answer → Word
answer_word (Some (Reply said octets)) = words.Said said
answer_word (Some (answers.Dropped dropped)) = words.Dropped dropped
answer_word (Some answers.Refused) = words.Refused
answer_word _ = words.Tick

-- a line's word by its last answer, which is its datagram's; passing time is a tick
abbrev pub taken_word : Happening → (last : Option Answer) → Word
taken_word happenings.Tick last = words.Tick
taken_word _ last = answer_word last

-- the word of a line, from the answers to its steps
abbrev pub word_of : Happening → List Answer → Word
word_of happening answers =
    if list_any is_refused answers then words.Refused
    else taken_word happening (slice_get answers (length answers - 1))

-- a number and a word, with a space between them and a line feed after them
abbrev pub line_text : (number : ℕ) → Word → List ℕ
line_text number word = decimal number ++ 32 ∷ word_text word ++ 10 ∷ []

-- the printed lines of event lines, numbered from this number: the first answers are those of the
-- first line's steps
unfoldable pub printed_from : Configuration → (number : ℕ) → List EventLine → List Answer → List ℕ
printed_from config number [] answers = []
printed_from config number (line ∷ lines) answers =
    line_text number (word_of line.happening (take (step_count config line) answers))
    ++ printed_from config (number + 1) lines (drop (step_count config line) answers)

-- the text that is printed
abbrev pub printed_lines : Configuration → List EventLine → List Answer → List ℕ
printed_lines config lines answers = printed_from config 1 lines answers
