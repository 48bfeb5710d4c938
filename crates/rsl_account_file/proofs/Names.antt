-- The first name that a table may not have as a key, as a loop over its keys finds it.
use Rattle.std.proofs.Common.{◌≡◌, Bool, true, false, List, [], ◌∷◌, map, if◌then◌else◌, Option, None, Some, refl}
use Rattle.std.specs.Prelude.{String, string_bytes}
use Rattle.std.specs.BTreeMap.{BTreeMap, keys}
use Rattle.std.specs.declared.alloc.Global.{Global}
use Rattle.toml.specs.Data.{Data, table, as_table}
use Rattle.toml.specs.View.{members_view, table_view}
use Rattle.toml.specs.declared.value.Value.{Value}
use Rattle.rsl_accounts.specs.declared.fault.ConfigFault.{ConfigFault}
use Rattle.rsl_accounts.specs.declared.fault.ConfigFault.TheVariants.{Unknown}
use Rattle.rsl_accounts.specs.declared.part.Part.{Part}
use Rattle.rsl_accounts.specs.Part.{knows}
use Rattle.rsl_account_file.specs.File.{unknown_of, unknown_in}

abbrev pub unknown_name : Part → List (String Global) → Option ConfigFault
unknown_name part [] = None
unknown_name part (name ∷ names) =
    if knows part (string_bytes name) then unknown_name part names else Some (Unknown part (string_bytes name))

module _ (part : Part) (entry : String Global × Value) (entries : List (String Global × Value)) (rest : unknown_of part (members_view entries) ≡ unknown_name part (map (λ entry. entry.0) entries)) where
  one_more : (known : Bool) → knows part (string_bytes entry.0) ≡ known → unknown_of part (members_view (entry ∷ entries)) ≡ unknown_name part (map (λ entry. entry.0) (entry ∷ entries))
  one_more true is = rw is rest
  one_more false is = rw is refl

of_members : (part : Part) (entries : List (String Global × Value)) → unknown_of part (members_view entries) ≡ unknown_name part (map (λ entry. entry.0) entries)
of_members part [] = refl
of_members part (entry ∷ entries) =
    one_more part entry entries (of_members part entries) (knows part (string_bytes entry.0)) refl

-- the keys of a table are the names that are looked at
pub of_keys : (part : Part) (value : Data) (m : BTreeMap (String Global) Value) → as_table value ≡ Some (table_view m) → unknown_in part value ≡ unknown_name part (keys m)
of_keys part (table members) m is =
    let same : members ≡ table_view m = cc in
    rw same (of_members part m.entries)
of_keys part _ m is = cc
