-- What TOML's values are for the fields of an account file.
use Rattle.std.proofs.Common.{◌≡◌, ℕ, ◌<◌, ◌≤◌, ◌^◌, Bool, true, false, ◌&&◌, if◌then◌else◌, List, [], ◌∷◌, map, length, None, Some, refl, ap, sym, ◌∙◌, arith}
use Rattle.std.proofs.lemmas.List.{length-map}
use Rattle.std.proofs.lemmas.List.Folds.{list_all-map}
use Rattle.std.specs.List.{list_all}
use Rattle.std.specs.Option.{is_some}
use Rattle.toml.specs.Data.{Data, string, integer, float, boolean, datetime, array, table, as_array, as_table}
use Rattle.toml.specs.View.{view, items_view}
use Rattle.toml.specs.declared.value.Value.{Value}
use Rattle.rsl_accounts.specs.declared.field.Field.{Field}
use Rattle.rsl_accounts.specs.declared.field.Field.TheVariants.{InterimSecs, Port}
use Rattle.rsl_accounts.specs.Field.{is_between, takes_number, takes_count}
use Rattle.rsl_account_file.specs.File.{list_of, tables_of, tables_of_list}
use Rattle.rsl_accounts.specs.Walk.{number_fault}
use Rattle.rsl_accounts.proofs.Within.{between, right_number}

-- the items of an array, seen one by one
pub list_of-items_view : (values : List Value) → list_of (items_view values) ≡ map view values
list_of-items_view [] = refl
list_of-items_view (value ∷ values) = ap (λ rest. view value ∷ rest) (list_of-items_view values)

pub tables_of-array : (f : Field) (value : Data) (values : List Value) → as_array value ≡ Some (items_view values) → tables_of f value ≡ tables_of_list f (map view values)
tables_of-array f (array found) values is =
    let same : found ≡ items_view values = cc in
    rw (same, list_of-items_view values)
tables_of-array f (string x) values is = cc
tables_of-array f (integer x) values is = cc
tables_of-array f (float x) values is = cc
tables_of-array f (boolean x) values is = cc
tables_of-array f (datetime x) values is = cc
tables_of-array f (table x) values is = cc

module _ (f : Field) (values : List Value) where
  abbrev pub are_all : Bool
  are_all = list_all (λ value. is_some (as_table (view value))) values

  looked_at : tables_of_list f (map view values) ≡ (if are_all && takes_count f (length values) then Some (map view values) else None)
  looked_at = rw (list_all-map (λ value. is_some (as_table value)) view values, length-map values view)

  pub tables_right : true ≡ are_all → true ≡ takes_count f (length values) → Some (map view values) ≡ tables_of_list f (map view values)
  tables_right all counted = sym (looked_at ∙ rw (← all, ← counted))

  pub others_than_tables : false ≡ are_all → None ≡ tables_of_list f (map view values)
  others_than_tables some = sym (looked_at ∙ rw (← some))

  pub wrong_count : true ≡ are_all → false ≡ takes_count f (length values) → None ≡ tables_of_list f (map view values)
  wrong_count all counted = sym (looked_at ∙ rw (← all, ← counted))

-- seconds between interim updates have 32 bits
pub interval_has_32_bits : (n : ℕ) → number_fault InterimSecs n ≡ None → n < 2 ^ 32
interval_has_32_bits n none =
    let most : n ≤ 86400 = (between 60 86400 n (right_number InterimSecs n none)).1 in
    omega arith

-- a port has 16 bits
pub port_has_16_bits : (n : ℕ) → number_fault Port n ≡ None → n < 2 ^ 16
port_has_16_bits n none =
    let most : n ≤ 65535 = (between 1 65535 n (right_number Port n none)).1 in
    omega arith

-- a number that the field may have has 32 bits
pub has_32_bits : (f : Field) → ((n : ℕ) → takes_number f n ≡ is_between 1 4294967295 n) → (n : ℕ) → number_fault f n ≡ None → n < 2 ^ 32
has_32_bits f takes n none =
    let most : n ≤ 4294967295 = (between 1 4294967295 n (sym (takes n) ∙ right_number f n none)).1 in
    omega arith
