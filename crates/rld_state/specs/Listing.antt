-- A page of the links of all accounts.
use Rattle.std.specs.Prelude.{◌≡◌, ⊤, ℕ, suc, List, [], ◌∷◌}
use Rattle.std.specs.Option.{option_map_or}
use Rattle.rld_books.specs.Saved.{links_in}
use Rattle.rld_control.specs.declared.listing.AccountLinks.{AccountLinks}
use Rattle.rsl_session.specs.Book.{BookLink}
use Rattle.rsl_session.specs.Saved.{saved_links}
use Rattle.rld_books.specs.Server.{ServerSeen}

-- the links of an account; none of one that is not there
abbrev pub links_held : ServerSeen → (account : ℕ) → List BookLink
links_held books account = option_map_or (λ (links : List BookLink). links) (links_in books account) []

-- one account after the other from this one on, each with all its links, in their order
unfoldable pub AreHeldFrom : ServerSeen → (account : ℕ) → List AccountLinks → Type 0
AreHeldFrom books account [] = ⊤
AreHeldFrom books account (held ∷ rest) =
    (held.account ≡ account)
    × ((saved_links held.links.items ≡ links_held books account) × AreHeldFrom books (suc account) rest)
