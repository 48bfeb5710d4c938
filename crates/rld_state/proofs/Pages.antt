-- A page of links, an account more at its end.
use Rattle.std.proofs.Common.{◌≡◌, ℕ, suc, ◌+◌, List, [], ◌∷◌, ◌++◌, length, Option, None, Some, ap, ◌∙◌, arith}
use Rattle.std.specs.Option.{option_map_or}
use Rattle.rld_books.specs.Saved.{links_in}
use Rattle.rld_control.specs.declared.listing.AccountLinks.{AccountLinks}
use Rattle.rld_state.specs.Listing.{AreHeldFrom, links_held}
use Rattle.rsl_session.specs.Book.{BookLink}
use Rattle.rsl_session.specs.Saved.{saved_links}
use Rattle.rsl_session.specs.declared.saved.SavedLink.{SavedLink}
use Rattle.rld_books.specs.Server.{ServerSeen}

pub none_held : (books : ServerSeen) (first : ℕ) → AreHeldFrom books first []
unfolding AreHeldFrom
none_held books first = tt

pub one_more : (books : ServerSeen) (first account : ℕ) (helds : List AccountLinks) (held : AccountLinks)
    → AreHeldFrom books first helds → account ≡ first + length helds → held.account ≡ account
    → saved_links held.links.items ≡ links_held books account → AreHeldFrom books first (helds ++ held ∷ [])
unfolding AreHeldFrom
one_more books first account [] held before at number links =
    let same : account ≡ first = omega (arith, at) in (number ∙ same, (links ∙ ap (links_held books) same, tt))
one_more books first account (one ∷ helds) held before at number links =
    (before.0, (before.1.0, one_more books (suc first) account helds held before.1.1 (omega (arith, at)) number links))

pub ruleset page_steps = (none_held, one_more)

pub some_held : (books : ServerSeen) (account : ℕ) (links : List SavedLink) → Some (saved_links links) ≡ links_in books account
    → saved_links links ≡ links_held books account
some_held books account links is = ap (λ (found : Option (List BookLink)). option_map_or (λ (links : List BookLink). links) found []) is

pub none_there : (books : ServerSeen) (account : ℕ) (links : List SavedLink) → links ≡ [] → None ≡ links_in books account
    → saved_links links ≡ links_held books account
unfolding saved_links
none_there books account links none is =
    ap (λ (some : List SavedLink). saved_links some) none
    ∙ ap (λ (found : Option (List BookLink)). option_map_or (λ (links : List BookLink). links) found []) is

pub ruleset held_steps = (some_held, none_there)
