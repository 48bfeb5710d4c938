-- What the text of an account file is, step by step.
use Rattle.std.proofs.Common.{◌≡◌, ℕ, Bool, true, false, List, None, Some, refl}
use Rattle.std.proofs.lemmas.Str.{IsUtf8-from_is_utf8, is_utf8-from_IsUtf8}
use Rattle.std.specs.Str.{IsUtf8, is_utf8}
use Rattle.toml.specs.Data.{Members, table}
use Rattle.toml.specs.Parse.{parse_document}
use Rattle.rsl_account_file.specs.File.{file_of}

pub file_of-table : (text : List ℕ) (found : Members) → IsUtf8 text → parse_document text ≡ Some found → file_of text ≡ Some (table found)
unfolding file_of
file_of-table text found utf8 parsed = rw (is_utf8-from_IsUtf8 text utf8, parsed)

pub file_of-none : (text : List ℕ) → (IsUtf8 text → parse_document text ≡ None) → file_of text ≡ None
unfolding file_of
file_of-none text refused = by (is_utf8 text) refl
  where
    by : (b : Bool) → is_utf8 text ≡ b → file_of text ≡ None
    by true is = rw (is, refused (IsUtf8-from_is_utf8 text is))
    by false is = rw is
