-- The lines of a script, and the words of a line.
use Rattle.std.specs.Prelude.{ℕ, ◌==◌, ◌&&◌, nat_le, not, Bool, true, List, [], ◌∷◌, length}
use Rattle.std.specs.List.{list_all, slice_split}

-- the pieces between separators: one more than there are separators
abbrev pub pieces : (separator : ℕ) → List ℕ → List (List ℕ)
pieces separator octets = slice_split (λ octet. octet == separator) octets

-- the lines of a text, split at each LF; after a last LF there is an empty line
abbrev pub text_lines : List ℕ → List (List ℕ)
text_lines text = pieces 10 text

-- the words of a line, split at each space
abbrev pub line_words : List ℕ → List (List ℕ)
line_words line = pieces 32 line

-- whether each octet is a visible ASCII character or a space
abbrev pub is_printed : List ℕ → Bool
is_printed line = list_all (λ octet. nat_le 32 octet && nat_le octet 126) line

-- an empty line, and a comment, which begins with `#`
abbrev pub is_silent : List ℕ → Bool
is_silent [] = true
is_silent (octet ∷ rest) = octet == 35

-- whether none of the words is empty, as between two spaces or beside one at either end
abbrev pub are_words : List (List ℕ) → Bool
are_words words = list_all (λ word. not (length word == 0)) words
