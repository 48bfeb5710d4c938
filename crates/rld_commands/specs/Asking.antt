-- What a running server is sent, and what comes of its answer.
use Rattle.std.specs.Prelude.{◌≡◌, ⊤, ◌⊎◌, ℕ, true, false, List, [], ◌∷◌, ◌++◌, codes, string_bytes, if◌then◌else◌, Some}
use Rattle.std.specs.Borrow.{Bor}
use Rattle.std.specs.Str.Lossy.{utf8_lossy}
use Rattle.rld_control.specs.Reply.{IsReply}
use Rattle.rld_control.specs.declared.reply.Reply.{Reply}
use Rattle.rld_commands.specs.Outcome.{outcome_of}
use Rattle.rld_commands.specs.declared.fault.Fault.{Fault}
use Rattle.rld_commands.specs.declared.fault.Fault.TheVariants as faults
use Rattle.rld_commands.specs.declared.outcome.Outcome.{Outcome}
use Rattle.rld_commands.specs.declared.outcome.Outcome.TheVariants.{Done, NotHeld, Unanswered, Refused, Broken}
use Rattle.rld_words.specs.Arguments.{topic_of}
use Rattle.rld_words.specs.Given.{Seen, has}
use Rattle.rld_words.specs.Waits.{patience_of, takes_timeout}
use Rattle.rld_words.specs.declared.flag.Flag.{Flag}
use Rattle.rld_words.specs.declared.flag.Flag.TheVariants as flags
use Rattle.rld_words.specs.declared.patience.Patience.{Patience}
use Rattle.rld_words.specs.declared.patience.Patience.TheVariants.{Endless, Seconds}
use Rattle.rld_words.specs.declared.topic.Topic.{Topic}
use Rattle.rld_words.specs.declared.topic.Topic.TheVariants as topics

-- ---- the line

-- the word of a flag, if it is given
abbrev pub flag_text : Seen → Flag → (text : List ℕ) → List ℕ
flag_text given flag text = if has given flag then text else []

abbrev pub flags_text : Seen → List ℕ
flags_text given =
    flag_text given flags.Json (codes " --json")
    ++ (flag_text given flags.Held (codes " --held") ++ flag_text given flags.Full (codes " --full"))

-- each after a space
abbrev pub words_text : (words : List (List ℕ)) → List ℕ
words_text [] = []
words_text (word ∷ words) = (32 ∷ word) ++ words_text words

-- the name of the command, its flags, and its words
pub record IsSentAs (topic : Topic) (given : Seen) (words : List (List ℕ)) (line : List ℕ) : Type 0 where
  pub name : List ℕ
  pub named : topic_of name ≡ Some topic
  pub is : line ≡ name ++ flags_text given ++ words_text words

-- ---- the answer

-- the fault of a server that does not do it, for this reason
abbrev pub IsRefusal : Topic → (why : List ℕ) → Fault → Type 0
IsRefusal topics.Ready why (faults.NotReady text) = string_bytes text ≡ why
IsRefusal topics.Ready why fault = ⊥
IsRefusal topic why (faults.Refused text) = string_bytes text ≡ why
IsRefusal topic why fault = ⊥

-- the fault of a control socket at this path at which no server answers
abbrev pub IsSilent : Topic → (path : List ℕ) → Fault → Type 0
IsSilent topics.Ready path (faults.NotReady text) = ⊤
IsSilent topics.Ready path fault = ⊥
IsSilent topic path (faults.Silent at) = string_bytes at ≡ path
IsSilent topic path fault = ⊥

-- the fault of an answer that has not come in time: that of silence, unless the words may say the time
abbrev pub IsLate : Topic → Patience → (path : List ℕ) → Fault → Type 0
IsLate topic (Seconds secs) path (faults.Late at after) =
    (takes_timeout (patience_of topic) ≡ true) × (string_bytes at ≡ path) × (after ≡ secs)
IsLate topic (Seconds secs) path fault =
    (takes_timeout (patience_of topic) ≡ false) × IsSilent topic path fault
IsLate topic Endless path fault = IsSilent topic path fault

-- these octets say that it is done, with these lines
pub record IsDoneWith (topic : Topic) (octets lines : List ℕ) : Type 0 where
  pub reply : Reply
  pub text : Bor (List ℕ)
  pub read : IsReply octets reply
  pub outcome : outcome_of topic reply ≡ Done text
  pub are : lines ≡ text.now

-- the fault of a command with this outcome, unless memory is refused
abbrev pub IsFaultAfter : Topic → (path : List ℕ) → Outcome → Fault → Type 0
IsFaultAfter topic path (Done lines) fault = ⊥
IsFaultAfter topic path NotHeld fault = fault ≡ faults.NotHeld
IsFaultAfter topic path Unanswered fault = fault ≡ faults.Unanswered
IsFaultAfter topic path (Refused text) fault = IsRefusal topic (utf8_lossy text.now) fault ⊎ (fault ≡ faults.NoMemory)
IsFaultAfter topic path Broken fault = IsSilent topic path fault ⊎ (fault ≡ faults.NoMemory)

-- these octets say that it is not done, for this reason
pub record IsWhyNot (topic : Topic) (path octets : List ℕ) (fault : Fault) : Type 0 where
  pub reply : Reply
  pub read : IsReply octets reply
  pub is : IsFaultAfter topic path (outcome_of topic reply) fault
