-- The words of a command: its flags, each once and with its value, and the others in their order.
use Rattle.std.specs.Prelude.{ℕ, Bool, if◌then◌else◌, List, [], ◌∷◌, ◌++◌, map, find, is_none, Option, None, Some, option_map}
use Rattle.std.specs.List.{list_any}
use Rattle.rld_words.specs.Flags.{flag_of, has_value, is_same}
use Rattle.rld_words.specs.declared.flag.Flag.{Flag}
use Rattle.rld_words.specs.declared.given.Given.{Given}
use Rattle.rld_words.specs.declared.given.Used.{Used}
use Rattle.rld_words.specs.declared.topic.Topic.{Topic}

-- what is given so far: of a flag the word after it, none where it has no value; and the flag whose value comes next
pub record Seen : Type 0 where
  pub used : List (Flag × List ℕ)
  pub plain : List (List ℕ)
  pub due : Option Flag

abbrev pub used_as : Used → Flag × List ℕ
used_as used = (used.flag, used.value.now)

abbrev pub seen : Given → Seen
seen given = record {
  used = map used_as given.used.items;
  plain = map (λ word. word.now) given.plain.items;
  due = given.due;
}

abbrev pub nothing : Seen
nothing = record { used = []; plain = []; due = None }

abbrev pub is_of : Flag → Flag × List ℕ → Bool
is_of flag used = is_same used.0 flag

abbrev pub has : Seen → Flag → Bool
has given flag = list_any (is_of flag) given.used

-- the word after a flag, whatever stands before and after both
abbrev pub value_of : Seen → Flag → Option (List ℕ)
value_of given flag = option_map (λ used. used.1) (find (is_of flag) given.used)

-- ---- with one word more

abbrev pub with_used : Seen → Flag → (value : List ℕ) → Seen
with_used given flag value = record given { used = given.used ++ (flag, value) ∷ []; due = None }

abbrev pub with_plain : Seen → (word : List ℕ) → Seen
with_plain given word = record given { plain = given.plain ++ word ∷ [] }

abbrev pub with_new : Seen → Flag → Seen
with_new given flag = if has_value flag then record given { due = Some flag } else with_used given flag []

-- no flag stands twice
abbrev pub with_flag : Seen → Flag → Option Seen
with_flag given flag = if has given flag then None else Some (with_new given flag)

abbrev pub with_other : Seen → (word : List ℕ) → Option Flag → Option Seen
with_other given word None = Some (with_plain given word)
with_other given word (Some flag) = with_flag given flag

-- a word after a flag that has a value is that value; else it is a flag of the command, or one of the others
abbrev pub with_next : Topic → Seen → (word : List ℕ) → (due : Option Flag) → Option Seen
with_next topic given word (Some flag) = Some (with_used given flag word)
with_next topic given word None = with_other given word (flag_of topic word)

abbrev pub with_word : Topic → Seen → (word : List ℕ) → Option Seen
with_word topic given word = with_next topic given word given.due

-- ---- with all words

abbrev pub and_then : Option Seen → (Seen → Option Seen) → Option Seen
and_then None next = None
and_then (Some given) next = next given

abbrev pub with_words : Topic → Seen → (words : List (List ℕ)) → Option Seen
with_words topic given [] = Some given
with_words topic given (word ∷ words) = and_then (with_word topic given word) (λ next. with_words topic next words)

-- no flag is without its value at the end
abbrev pub whole : Seen → Option Seen
whole given = if is_none given.due then Some given else None

abbrev pub given_of : Topic → (words : List (List ℕ)) → Option Seen
given_of topic words = and_then (with_words topic nothing words) whole
