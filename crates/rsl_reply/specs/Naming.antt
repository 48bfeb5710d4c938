-- Which attribute a name stands for.
use Rattle.std.specs.Prelude.{ℕ, ◌==◌, ◌&&◌, Bool, true, false, if◌then◌else◌, List, codes, bytes_eq, Option, None, Some}
use Rattle.std.specs.List.{list_any}
use Rattle.std.specs.Option.{option_or}
use Rattle.rsl_accounts.specs.declared.reply_form.Form.{Form}
use Rattle.rsl_accounts.specs.declared.reply_form.Form.TheVariants.{Octets, TaggedNumber, TaggedText}
use Rattle.rsl_reply.specs.declared.dictionary.Dictionary.{Dictionary}
use Rattle.rsl_reply.specs.declared.naming.TheConstants.{SERVERS_OWN}
use Rattle.rsl_reply.specs.declared.target.Target.{Target}
use Rattle.rsl_reply.specs.Dictionary.{attribute_named}
use Rattle.rsl_reply.specs.Words.{◌>>=◌, rest_after, split_at, up_to}

-- an attribute by its numbers, whose value is octets
abbrev pub numbered : (vendor number : ℕ) → Target
numbered vendor number = record { vendor = vendor; number = number; form = Octets; tag = 0 }

-- `14988.8` of `Attr-26.14988.8`: a vendor's number and a Type
unfoldable pub vendor_numbered : List ℕ → Option Target
vendor_numbered numbers = do
  parts ← split_at 46 numbers
  vendor ← up_to 16777215 parts.0
  number ← up_to 255 parts.1
  Some (numbered vendor number)

-- `N` of `Attr-N`, or what stands after the first dot
abbrev pub numbered_by : Option (List ℕ × List ℕ) → List ℕ → Option Target
numbered_by None numbers = do
  number ← up_to 255 numbers
  Some (numbered 0 number)
numbered_by (Some parts) numbers =
    if bytes_eq parts.0 (codes "26") then vendor_numbered parts.1 else None

-- `Attr-N`, or `Attr-26.VENDOR.TYPE`
unfoldable pub attribute_numbered : (name : List ℕ) → Option Target
attribute_numbered name = do
  numbers ← rest_after (codes "Attr-") name
  numbered_by (split_at 46 numbers) numbers

-- whether its values have a tag (RFC 2868 section 3)
abbrev pub has_tag : Form → Bool
has_tag TaggedNumber = true
has_tag TaggedText = true
has_tag _ = false

-- a name, a colon and a tag from 1 to 31
unfoldable pub tagged_target : Dictionary → (front tag : List ℕ) → Option Target
tagged_target names front tag = do
  target ← attribute_named names front
  number ← up_to 31 tag
  if has_tag target.form then Some (record target { tag = number }) else None

unfoldable pub plain_target : Dictionary → (name : List ℕ) → Option Target
plain_target names name = option_or (attribute_numbered name) (attribute_named names name)

abbrev pub target_by : Dictionary → Option (List ℕ × List ℕ) → (name : List ℕ) → Option Target
target_by names None name = plain_target names name
target_by names (Some parts) name = tagged_target names parts.0 parts.1

unfoldable pub target_of : Dictionary → (name : List ℕ) → Option Target
target_of names name = target_by names (split_at 58 name) name

-- whether the server sets it itself, or counts by it
abbrev pub is_servers : Target → Bool
is_servers target =
    target.vendor == 0
    && list_any (λ own. own == target.number) SERVERS_OWN
