-- The pages of a list of sessions.
use Rattle.std.specs.Prelude.{◌≡◌, ℕ, ◌+◌, ◌==◌, Bool, true, ◌||◌, List, codes, bytes_eq, drop, length, take, Option, Some, None}
use Rattle.std.specs.Borrow.{Bor}
use Rattle.std.specs.List.{filter, position}
use Rattle.rld_commands.specs.declared.sessions.Page.{Page}
use Rattle.rld_words.specs.Given.{Seen, has}
use Rattle.rld_words.specs.declared.flag.Flag.TheVariants as flags

abbrev pub is_feed : (octet : ℕ) → Bool
is_feed octet = octet == 10

-- the number of lines
abbrev pub lines_in : List ℕ → ℕ
lines_in text = length (filter is_feed text)

-- the first line of a page: no other follows, or one that begins with the account of this word
abbrev pub SaysNext : (first : List ℕ) → Option (Bor (List ℕ)) → Type 0
SaysNext first None = bytes_eq first (codes "last") ≡ true
SaysNext first (Some word) = (bytes_eq (take 5 first) (codes "more ") ≡ true) × (word.now ≡ drop 5 first)

-- octets are this page: its first line, and after that its links
pub record IsPage (octets : List ℕ) (page : Page) : Type 0 where
  pub at : ℕ
  pub ends : position is_feed octets ≡ Some at
  pub next : SaysNext (take at octets) page.next
  pub links : page.links.now ≡ drop (at + 1) octets

-- whether flags narrow a list of all sessions
abbrev pub narrows : Seen → Bool
narrows given =
    has given flags.Nas || has given flags.Client || has given flags.State || has given flags.Older
