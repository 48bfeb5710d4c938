-- The indexes of the table of access servers that something names.
use Rattle.std.specs.Prelude.{ℕ, List, ◌==◌, Bool, ◌||◌}
use Rattle.std.specs.List.{list_any}
use Rattle.rsl_links.specs.Named.{named_by_links}
use Rattle.rsl_links.specs.declared.link.Link.{Link}
use Rattle.rsl_book.specs.declared.kept.Kept.{Kept}
use Rattle.rsl_book.specs.declared.kept.DecidedAsk.{DecidedAsk}
use Rattle.rsl_book.specs.declared.kept.EndedSession.{EndedSession}

unfoldable pub named_by_kept : {S : Type 0} → List (Kept S) → ℕ → Bool
named_by_kept {S = S} all index = list_any (λ (kept : Kept S). kept.nas == index) all

unfoldable pub is_named : List Link → List (Kept DecidedAsk) → List (Kept EndedSession) → ℕ → Bool
is_named links asks stops index =
    named_by_links links index || named_by_kept asks index || named_by_kept stops index
