-- An attribute as an operator writes it: a name, and a value.
use Rattle.std.specs.Prelude.{ℕ, ◌==◌, if◌then◌else◌, List, [], ◌++◌, codes, Option, None, Some}
use Rattle.std.specs.Fmt.{decimal}
use Rattle.rsl_reply.specs.Dictionary.{name_of}
use Rattle.rsl_reply.specs.declared.dictionary.Dictionary.{Dictionary}
use Rattle.rsl_accounts.specs.declared.reply_form.Form.{Form}
use Rattle.rld_attributes.specs.Carried.{Carried, carried}
use Rattle.rld_attributes.specs.declared.written.Written.{Written}
use Rattle.rld_attributes.specs.Value.{digits, tag_in, value_text}

-- by its numbers, with its value as octets
abbrev pub numbers_name : (vendor kind : ℕ) → List ℕ
numbers_name vendor kind =
    if vendor == 0
    then codes "Attr-" ++ decimal kind
    else codes "Attr-26." ++ (decimal vendor ++ (codes "." ++ decimal kind))

abbrev pub by_numbers : Carried → Written
by_numbers carried =
    record { name = numbers_name carried.0 carried.1; value = digits carried.2 }

-- by its name, which a tag follows if it has one (RFC 2868 section 3)
abbrev pub tagged_name : (name : List ℕ) → (tag : ℕ) → List ℕ
tagged_name name tag = name ++ (if tag == 0 then [] else codes ":" ++ decimal tag)

-- by its name where the dictionary has it, and its value is of the form that it has there
abbrev pub written_by : Carried → (name : List ℕ) → Form → Option (List ℕ) → Written
written_by carried name form None = by_numbers carried
written_by carried name form (Some text) =
    record { name = tagged_name name (tag_in form carried.2); value = text }

abbrev pub written_if : Dictionary → Carried → Option (List ℕ × Form) → Written
written_if names carried None = by_numbers carried
written_if names carried (Some named) =
    written_by carried named.0 named.1 (value_text names named.1 carried.0 carried.1 carried.2)

abbrev pub written_as : Dictionary → Carried → Written
written_as names carried = written_if names carried (name_of names carried.0 carried.1)

unfoldable pub written : Dictionary → (kind : ℕ) → (value : List ℕ) → Written
written names kind value = written_as names (carried kind value)

-- `NAME = VALUE`
unfoldable pub pair : Written → List ℕ
pair one = one.name ++ (codes " = " ++ one.value)
