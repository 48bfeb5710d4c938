-- The reply attributes of a list, and the profiles of a table, as loops read them.
use Rattle.std.proofs.Common.{◌≡◌, ℕ, ◌+◌, ◌<◌, ◌≤◌, List, [], ◌∷◌, ◌++◌, map, length, get_or, drop, Some, Result, Ok, Err, String, Global, string_bytes, sym, ap, ◌∙◌}
use Rattle.std.proofs.lemmas.List.{drop_more, drop_all}
use Rattle.toml.specs.Data.{Data, array, string, integer, float, boolean, datetime, table, as_array}
use Rattle.toml.specs.View.{view, items_view, members_view}
use Rattle.toml.specs.declared.value.Value.{Value}
use Rattle.rsl_accounts.specs.declared.fault.ConfigFault.{ConfigFault}
use Rattle.rsl_accounts.specs.declared.part.Part.{Part}
use Rattle.rsl_reply.specs.declared.attribute.ReplyAttribute.{ReplyAttribute}
use Rattle.rsl_reply.specs.declared.dictionary.Dictionary.{Dictionary}
use Rattle.rsl_account_file.specs.Common.{ProfileSeen}
use Rattle.rsl_account_file.specs.File.{and_then, reply_item, reply_list, replies_from, profile_in, profiles_from}
use Rattle.rsl_account_file.proofs.Values.{list_of-items_view}

pub reply_list-array : (names : Dictionary) (part : Part) (name : List ℕ) (value : Data) (values : List Value) → as_array value ≡ Some (items_view values) → reply_list names part name value ≡ replies_from names part name 1 [] (map view values)
unfolding reply_list
reply_list-array names part name (array found) values is =
    let same : found ≡ items_view values = cc in
    rw (same, list_of-items_view values)
reply_list-array names part name (string x) values is = cc
reply_list-array names part name (integer x) values is = cc
reply_list-array names part name (float x) values is = cc
reply_list-array names part name (boolean x) values is = cc
reply_list-array names part name (datetime x) values is = cc
reply_list-array names part name (table x) values is = cc

module _ (names : Dictionary) (part : Part) (name : List ℕ) (items : List Value) (i : ℕ) (x : Value) (within : i < length items) (is : x ≡ get_or items i x) (place : ℕ) (before : List ReplyAttribute) where
  abbrev next : ReplyAttribute → Result (List ReplyAttribute) ConfigFault
  next attribute = replies_from names part name (place + 1) (before ++ attribute ∷ []) (map view (drop (i + 1) items))

  here : replies_from names part name place before (map view (drop i items)) ≡ and_then (reply_item names part name place (view x)) next
  unfolding replies_from
  here = rw (drop_more items i x within, ← is)

  -- an item that is read
  pub reply_read : (whole : Result (List ReplyAttribute) ConfigFault) (attribute : ReplyAttribute) (after : List ReplyAttribute) → replies_from names part name place before (map view (drop i items)) ≡ whole → reply_item names part name place (view x) ≡ Ok attribute → after ≡ before ++ attribute ∷ []
      → replies_from names part name (place + 1) after (map view (drop (i + 1) items)) ≡ whole
  reply_read whole attribute after so_far read e =
      ap (λ (a : List ReplyAttribute). replies_from names part name (place + 1) a (map view (drop (i + 1) items))) e
      ∙ sym (ap (λ (r : Result ReplyAttribute ConfigFault). and_then r next) read) ∙ sym here ∙ so_far

  -- and one that is wrong
  pub reply_fails : (whole : Result (List ReplyAttribute) ConfigFault) (fault : ConfigFault) → replies_from names part name place before (map view (drop i items)) ≡ whole → reply_item names part name place (view x) ≡ Err fault → whole ≡ Err fault
  reply_fails whole fault so_far fails = sym so_far ∙ here ∙ ap (λ (r : Result ReplyAttribute ConfigFault). and_then r next) fails

pub replies_end : (names : Dictionary) (part : Part) (name : List ℕ) (items : List Value) (i place : ℕ) (before : List ReplyAttribute) (whole : Result (List ReplyAttribute) ConfigFault) → length items ≤ i
    → replies_from names part name place before (map view (drop i items)) ≡ whole → whole ≡ Ok before
unfolding replies_from
replies_end names part name items i place before whole past so_far =
    sym so_far ∙ ap (λ (l : List Value). replies_from names part name place before (map view l)) (drop_all i items past)

abbrev pub Entry : Type 0
Entry = String Global × Value

module _ (version : ℕ) (names : Dictionary) (before : List ProfileSeen) (entries rest : List Entry) (entry : Entry) (whole : Result (List ProfileSeen) ConfigFault) (steps : entries ≡ entry ∷ rest) (so_far : profiles_from version names before (members_view entries) ≡ whole) where
  abbrev further : ProfileSeen → Result (List ProfileSeen) ConfigFault
  further profile = profiles_from version names (before ++ profile ∷ []) (members_view rest)

  first : and_then (profile_in version names (string_bytes entry.0) (view entry.1)) further ≡ whole
  unfolding profiles_from
  first = sym (ap (λ (es : List Entry). profiles_from version names before (members_view es)) steps) ∙ so_far

  -- a profile that is read
  pub profile_read : (profile : ProfileSeen) (after : List ProfileSeen) → profile_in version names (string_bytes entry.0) (view entry.1) ≡ Ok profile → after ≡ before ++ profile ∷ []
      → profiles_from version names after (members_view rest) ≡ whole
  profile_read profile after read e =
      ap (λ (ps : List ProfileSeen). profiles_from version names ps (members_view rest)) e
      ∙ sym (ap (λ (r : Result ProfileSeen ConfigFault). and_then r further) read) ∙ first

  -- and one that is wrong
  pub profile_fails : (fault : ConfigFault) → profile_in version names (string_bytes entry.0) (view entry.1) ≡ Err fault → whole ≡ Err fault
  profile_fails fault fails = sym first ∙ ap (λ (r : Result ProfileSeen ConfigFault). and_then r further) fails

pub profiles_end : (version : ℕ) (names : Dictionary) (before : List ProfileSeen) (entries : List Entry) (whole : Result (List ProfileSeen) ConfigFault) → entries ≡ [] → profiles_from version names before (members_view entries) ≡ whole → whole ≡ Ok before
unfolding profiles_from
profiles_end version names before entries whole none so_far = sym so_far ∙ ap (λ (es : List Entry). profiles_from version names before (members_view es)) none
