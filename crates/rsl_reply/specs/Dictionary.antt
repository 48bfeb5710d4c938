-- What names stand for, and what has which name, by the rows of a dictionary.
use Rattle.std.specs.Prelude.{ℕ, ◌==◌, ◌&&◌, if◌then◌else◌, List, [], ◌∷◌, map, Option, None, Some}
use Rattle.std.specs.Str.{str_eq_ignore_ascii_case}
use Rattle.rsl_reply.specs.declared.dictionary.Dictionary.{Dictionary}
use Rattle.rsl_accounts.specs.declared.reply_form.Form.{Form}
use Rattle.rsl_reply.specs.declared.target.Target.{Target}

-- the name of an attribute, its vendor's number, its Type, and the form of its values
abbrev pub Row : Type 0
Row = List ℕ × ℕ × ℕ × Form

-- the vendor's number and the Type of an attribute, the name of a value, and its number
abbrev pub ValueRow : Type 0
ValueRow = ℕ × ℕ × List ℕ × ℕ

-- the rows of a dictionary, as lists
abbrev pub rows_of : Dictionary → List Row
rows_of names = map (λ row. (row.0.now, row.1, row.2, row.3)) names.attributes.items

abbrev pub value_rows_of : Dictionary → List ValueRow
value_rows_of names = map (λ row. (row.0, row.1, row.2.now, row.3)) names.values.items

-- the attribute of the first row with this name, in capitals or not
abbrev pub attribute_in : List Row → (name : List ℕ) → Option Target
attribute_in [] name = None
attribute_in (row ∷ rows) name =
    if str_eq_ignore_ascii_case row.0 name
    then Some (record { vendor = row.1; number = row.2; form = row.3; tag = 0 })
    else attribute_in rows name

-- the attribute that has this name
abbrev pub attribute_named : Dictionary → (name : List ℕ) → Option Target
attribute_named names name = attribute_in (rows_of names) name

-- the number of the first row with these numbers and this name
abbrev pub value_in : List ValueRow → (vendor number : ℕ) → (name : List ℕ) → Option ℕ
value_in [] vendor number name = None
value_in (row ∷ rows) vendor number name =
    if row.0 == vendor && row.1 == number && str_eq_ignore_ascii_case row.2 name
    then Some row.3
    else value_in rows vendor number name

-- the number that this name stands for in the attribute with these numbers
abbrev pub value_named : Dictionary → (vendor number : ℕ) → (name : List ℕ) → Option ℕ
value_named names vendor number name = value_in (value_rows_of names) vendor number name

-- ---- the way back

-- the name and the form of the first row with these numbers
abbrev pub name_in : List Row → (vendor number : ℕ) → Option (List ℕ × Form)
name_in [] vendor number = None
name_in (row ∷ rows) vendor number =
    if row.1 == vendor && row.2 == number
    then Some (row.0, row.3)
    else name_in rows vendor number

-- the name of the attribute with these numbers, and how its values are written
abbrev pub name_of : Dictionary → (vendor number : ℕ) → Option (List ℕ × Form)
name_of names vendor number = name_in (rows_of names) vendor number

-- the name of the first row with these numbers and this value
abbrev pub value_name_in : List ValueRow → (vendor number value : ℕ) → Option (List ℕ)
value_name_in [] vendor number value = None
value_name_in (row ∷ rows) vendor number value =
    if row.0 == vendor && row.1 == number && row.3 == value
    then Some row.2
    else value_name_in rows vendor number value

-- the name of this value of the attribute with these numbers
abbrev pub name_of_value : Dictionary → (vendor number value : ℕ) → Option (List ℕ)
name_of_value names vendor number value = value_name_in (value_rows_of names) vendor number value
