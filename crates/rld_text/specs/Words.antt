-- The lines of a status that have a word and a number, in columns.
use Rattle.std.specs.Prelude.{ℕ, ◌-◌, List, ◌++◌, codes, length, take}
use Rattle.std.specs.Fmt.{decimal}

-- the spaces that pad a text to a width of at most 12
abbrev pub spaces_to : (width : ℕ) → (text : List ℕ) → List ℕ
spaces_to width text = take (width - length text) (codes "            ")

-- a word, left-aligned in 10 characters
abbrev pub left : (word : List ℕ) → List ℕ
left word = word ++ spaces_to 10 word

-- a number, right-aligned in 11 characters
abbrev pub right : (digits : List ℕ) → List ℕ
right digits = spaces_to 11 digits ++ digits

-- a line of a word and a number, with at least one space between them
unfoldable pub number_line : (word : List ℕ) → ℕ → List ℕ
number_line word number = left word ++ (codes " " ++ (right (decimal number) ++ codes "\n"))
