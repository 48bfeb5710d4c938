-- The words of a line.
use Rattle.std.specs.Prelude.{ℕ, ◌+◌, ◌==◌, List, Bool, take, drop, Option, Some, None}
use Rattle.std.specs.List.{position}
use Rattle.std.specs.Option.{option_map}

abbrev pub is_space : ℕ → Bool
is_space octet = octet == 32

-- the parts before and after the first space; none if there is no space
pub record Parted : Type 0 where
  pub word : List ℕ
  pub words : List ℕ

abbrev pub parted : List ℕ → Option Parted
parted line =
    option_map (λ at. record { word = take at line; words = drop (at + 1) line }) (position is_space line)

-- by the first word and the others, or else the single word
abbrev pub by_parts : {A : Type 0} → (List ℕ → List ℕ → Option A) → Option A → Option Parted → Option A
by_parts with alone None = alone
by_parts with alone (Some parts) = with parts.word parts.words

abbrev pub by_first_word : {A : Type 0} → (List ℕ → List ℕ → Option A) → Option A → (line : List ℕ) → Option A
by_first_word with alone line = by_parts with alone (parted line)
