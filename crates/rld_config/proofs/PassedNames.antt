-- The first name of a table that is passed over, as loops over keys and tables find it.
use Rattle.std.proofs.Common.{◌≡◌, Bool, true, false, List, [], ◌∷◌, map, if◌then◌else◌, Option, None, Some, refl, ap, sym, ◌∙◌}
use Rattle.std.specs.Prelude.{ℕ, String, string_bytes}
use Rattle.std.specs.BTreeMap.{BTreeMap, keys}
use Rattle.std.specs.declared.alloc.Global.{Global}
use Rattle.toml.specs.Data.{Data, string, integer, float, boolean, datetime, array, table, as_array, as_table}
use Rattle.toml.specs.View.{view, items_view, members_view, table_view}
use Rattle.toml.specs.declared.value.Value.{Value}
use Rattle.rsl_accounts.specs.declared.part.Part.{Part}
use Rattle.rsl_account_file.specs.File.{list_of}
use Rattle.rld_config.specs.Passed.{is_passed_over, items_of, name_of, name_in}

abbrev pub first_name : Part → List (String Global) → Option (List ℕ)
first_name part [] = None
first_name part (name ∷ names) =
    if is_passed_over part (string_bytes name) then Some (string_bytes name) else first_name part names

module _ (part : Part) (entry : String Global × Value) (entries : List (String Global × Value)) (rest : name_of part (members_view entries) ≡ first_name part (map (λ entry. entry.0) entries)) where
  one_more : (found : Bool) → is_passed_over part (string_bytes entry.0) ≡ found → name_of part (members_view (entry ∷ entries)) ≡ first_name part (map (λ entry. entry.0) (entry ∷ entries))
  one_more true is = rw is refl
  one_more false is = rw is rest

of_members : (part : Part) (entries : List (String Global × Value)) → name_of part (members_view entries) ≡ first_name part (map (λ entry. entry.0) entries)
of_members part [] = refl
of_members part (entry ∷ entries) =
    one_more part entry entries (of_members part entries) (is_passed_over part (string_bytes entry.0)) refl

-- the keys of a table are the names that are looked at
pub of_names : (part : Part) (value : Data) (m : BTreeMap (String Global) Value) → as_table value ≡ Some (table_view m) → name_in part value ≡ first_name part (keys m)
of_names part (table members) m is =
    let same : members ≡ table_view m = cc in
    rw same (of_members part m.entries)
of_names part _ m is = cc

-- the items of an array, seen one by one
seen : (values : List Value) → list_of (items_view values) ≡ map view values
seen [] = refl
seen (value ∷ values) = ap (λ rest. view value ∷ rest) (seen values)

pub items_of-array : (value : Data) (values : List Value) → as_array value ≡ Some (items_view values) → items_of (Some value) ≡ map view values
items_of-array (array found) values is =
    let same : found ≡ items_view values = cc in
    rw same (seen values)
items_of-array (string x) values is = cc
items_of-array (integer x) values is = cc
items_of-array (float x) values is = cc
items_of-array (boolean x) values is = cc
items_of-array (datetime x) values is = cc
items_of-array (table x) values is = cc
