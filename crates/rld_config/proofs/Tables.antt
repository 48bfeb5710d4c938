-- What TOML's values are as tables of the server's file.
use Rattle.std.proofs.Common.{◌≡◌, ℕ, Bool, true, false, ◌&&◌, if◌then◌else◌, List, [], ◌∷◌, map, length, None, Some, refl, ap, sym, ◌∙◌}
use Rattle.std.proofs.lemmas.List.{length-map}
use Rattle.std.proofs.lemmas.List.Folds.{list_all-map}
use Rattle.std.specs.List.{list_all}
use Rattle.std.specs.Option.{is_some}
use Rattle.toml.specs.Data.{Data, string, integer, float, boolean, datetime, array, table, as_array, as_table}
use Rattle.toml.specs.View.{view, items_view}
use Rattle.toml.specs.declared.value.Value.{Value}
use Rattle.rld_config.specs.Key.{is_between}
use Rattle.rld_config.specs.Value.{list_of, tables_of, tables_of_list}

-- the items of an array, seen one by one
list_of-items_view : (values : List Value) → list_of (items_view values) ≡ map view values
list_of-items_view [] = refl
list_of-items_view (value ∷ values) = ap (λ rest. view value ∷ rest) (list_of-items_view values)

pub tables_of-array : (most : ℕ) (value : Data) (values : List Value) → as_array value ≡ Some (items_view values) → tables_of most value ≡ tables_of_list most (map view values)
tables_of-array most (array found) values is =
    let same : found ≡ items_view values = cc in
    rw (same, list_of-items_view values)
tables_of-array most (string x) values is = cc
tables_of-array most (integer x) values is = cc
tables_of-array most (float x) values is = cc
tables_of-array most (boolean x) values is = cc
tables_of-array most (datetime x) values is = cc
tables_of-array most (table x) values is = cc

module _ (most : ℕ) (values : List Value) where
  abbrev pub are_all : Bool
  are_all = list_all (λ value. is_some (as_table (view value))) values

  looked_at : tables_of_list most (map view values) ≡ (if are_all && is_between 1 most (length values) then Some (map view values) else None)
  looked_at = rw (list_all-map (λ value. is_some (as_table value)) view values, length-map values view)

  pub tables_right : true ≡ are_all → true ≡ is_between 1 most (length values) → Some (map view values) ≡ tables_of_list most (map view values)
  tables_right all counted = sym (looked_at ∙ rw (← all, ← counted))

  pub others_than_tables : false ≡ are_all → None ≡ tables_of_list most (map view values)
  others_than_tables some = sym (looked_at ∙ rw (← some))

  pub wrong_count : true ≡ are_all → false ≡ is_between 1 most (length values) → None ≡ tables_of_list most (map view values)
  wrong_count all counted = sym (looked_at ∙ rw (← all, ← counted))
