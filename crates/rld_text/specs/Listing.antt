-- A page of the links of all accounts: `more NAME`, where another page begins with the account of
-- this name, or `last`; and the links that are wanted, in the order of their accounts and then as
-- they opened, each as in `specs/Links.antt`.
use Rattle.std.specs.Prelude.{ℕ, List, [], ◌++◌, codes, nat_lt, if◌then◌else◌, length, slice_get}
use Rattle.std.specs.List.{flat_map}
use Rattle.std.specs.Option.{option_map_or}
use Rattle.rsl_accounts.specs.Configuration.{Configuration}
use Rattle.rsl_accounts.specs.declared.entry.Entry.{Entry}
use Rattle.rsl_session.specs.declared.saved.SavedLink.{SavedLink}
use Rattle.rld_control.specs.Wanted.{is_wanted}
use Rattle.rld_control.specs.declared.form.Form.{Form}
use Rattle.rld_control.specs.declared.listing.AccountLinks.{AccountLinks}
use Rattle.rld_control.specs.declared.wanted.Wanted.{Wanted}
use Rattle.rld_values.specs.Values.{word}
use Rattle.rld_text.specs.Links.{client_address, link_text}

-- the text of a link whose client is known, if it is wanted
abbrev pub text_of_wanted : Form → Configuration → Wanted → (name : List ℕ) → (live now : ℕ) → SavedLink → List ℕ
text_of_wanted form config wanted name live now link =
    if is_wanted wanted (client_address config link.nas.client) live now link
    then link_text form config name live now link
    else []

abbrev pub text_if_wanted : Form → Configuration → Wanted → (name : List ℕ) → (live now : ℕ) → SavedLink → List ℕ
text_if_wanted form config wanted name live now link =
    if nat_lt link.nas.client (length config.clients) then text_of_wanted form config wanted name live now link else []

-- those of an account with this name and live time
abbrev pub wanted_text : Form → Configuration → Wanted → (name : List ℕ) → (live now : ℕ) → List SavedLink → List ℕ
wanted_text form config wanted name live now links = flat_map (text_if_wanted form config wanted name live now) links

-- those of an account by its number
abbrev pub held_text : Form → Configuration → Wanted → (now : ℕ) → AccountLinks → List ℕ
held_text form config wanted now held =
    option_map_or (λ (entry : Entry). wanted_text form config wanted entry.name entry.rules.live now held.links.items)
    (slice_get config.accounts held.account) []

-- what follows: a page that begins with the account of this number, if there is one
unfoldable pub more_line : (name : List ℕ) → List ℕ
more_line name = codes "more " ++ (word name ++ codes "\n")

abbrev pub next_line : Configuration → (next : ℕ) → List ℕ
next_line config next =
    option_map_or (λ (entry : Entry). more_line entry.name) (slice_get config.accounts next) (codes "last\n")

unfoldable pub page_text : Form → Configuration → Wanted → (now : ℕ) → List AccountLinks → (next : ℕ) → List ℕ
page_text form config wanted now page next =
    next_line config next ++ (flat_map (held_text form config wanted now) page ++ codes "ok\n")
