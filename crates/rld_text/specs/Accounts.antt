-- What each account holds: `NAME places=N held=N reserved=N live=N stale=N over=N`, a line an
-- account; or a JSON object with the same members, a line an account.
use Rattle.std.specs.Prelude.{ℕ, List, [], ◌∷◌, ◌++◌, codes, Bool, true, nat_le, nat_lt, if◌then◌else◌}
use Rattle.std.specs.List.{flat_map}
use Rattle.rld_control.specs.declared.form.Form.{Form}
use Rattle.rld_control.specs.declared.form.Form.TheVariants.{Lines, Json}
use Rattle.rld_control.specs.declared.form.Selection.{Selection}
use Rattle.rld_control.specs.declared.form.Selection.TheVariants.{All, Held, Full}
use Rattle.rld_look.specs.declared.look.AccountLook.{AccountLook}
use Rattle.rsl_shard.specs.declared.row.Row.{Row}
use Rattle.rld_values.specs.Values.{word}
use Rattle.rld_text.specs.Json.{json_string, number_member}
use Rattle.rld_text.specs.LineWords.{number_word}

abbrev pub row_words : Row → List ℕ
row_words row =
    number_word (codes "places") row.places
    ++ number_word (codes "held") row.held
    ++ number_word (codes "reserved") row.reserved
    ++ number_word (codes "live") row.live
    ++ number_word (codes "stale") row.stale
    ++ number_word (codes "over") row.over

abbrev pub account_line : AccountLook → List ℕ
account_line account = word account.name ++ (row_words account.row ++ 10 ∷ [])

abbrev pub row_members : Row → List ℕ
row_members row =
    number_member (codes "places") row.places
    ++ number_member (codes "held") row.held
    ++ number_member (codes "reserved") row.reserved
    ++ number_member (codes "live") row.live
    ++ number_member (codes "stale") row.stale
    ++ number_member (codes "over") row.over

abbrev pub account_object : AccountLook → List ℕ
account_object account = codes "{\"name\":" ++ json_string account.name ++ row_members account.row ++ codes "}\n"

-- ---- the accounts that are shown

abbrev pub is_selected : Selection → AccountLook → Bool
is_selected All account = true
is_selected Held account = nat_lt 0 account.row.held
is_selected Full account = nat_le account.row.places account.row.held

abbrev pub account_text : Form → AccountLook → List ℕ
account_text Lines account = account_line account
account_text Json account = account_object account

abbrev pub text_if_selected : Form → Selection → AccountLook → List ℕ
text_if_selected form selection account =
    if is_selected selection account then account_text form account else []

-- the accounts in file order, and the line `ok`
abbrev pub accounts_text : Form → Selection → List AccountLook → List ℕ
accounts_text form selection accounts = flat_map (text_if_selected form selection) accounts ++ codes "ok\n"
