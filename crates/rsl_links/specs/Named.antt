-- The rows of the table of access servers that links name.
use Rattle.std.specs.Prelude.{◌≢◌, ℕ, ◌<◌, List, ◌==◌, Bool, length}
use Rattle.std.specs.List.{list_any}
use Rattle.rsl_event.specs.declared.nas.Nas.{Nas}
use Rattle.rsl_links.specs.declared.link.Link.{Link}
use Rattle.rsl_links.specs.Order.{link_at}
use Rattle.rsl_links.specs.Seen.{server_at}

unfoldable pub named_by_links : List Link → ℕ → Bool
named_by_links links at = list_any (λ (link : Link). link.nas == at) links

-- an index of the table: the first with its access server
pub record IsIndex (servers : List Nas) (at : ℕ) : Type 0 where
  pub within : at < length servers
  pub first : (x : ℕ) → x < at → server_at servers x ≢ server_at servers at

-- links are at such indexes, so links at one access server have one index
abbrev pub AreIndexed : List Nas → List Link → Type 0
AreIndexed servers links =
    (x : ℕ) → x < length links → IsIndex servers (link_at links x).nas
