-- The Access-Request of a line `ask` or `chap`: its words after the moment are CLIENT NAS NAME
-- PASSWORD ID, and then the optional word station=S.
use Rattle.std.specs.Prelude.{ℕ, List, [], ◌∷◌, codes, Option, None, Some}
use Rattle.std.specs.List.{join_with_byte}
use Rattle.rsl_accounts.specs.Address.{address_of}
use Rattle.rsl_script.specs.declared.event_line.Happening.{Happening}
use Rattle.rsl_script.specs.declared.event_line.Happening.TheVariants.{Access}
use Rattle.rsl_script.specs.declared.request.AccessRequest.{AccessRequest}
use Rattle.rsl_script.specs.declared.request.Method.{Method}
use Rattle.rsl_script.specs.declared.request.Method.TheVariants.{Pap, Chap}
use Rattle.rsl_script.specs.Reads.{◌>>=◌}
use Rattle.rsl_script.specs.Values.{read_id, read_name, read_nas, read_password, read_station}

-- the first word of the line
abbrev pub method_word : Method → List ℕ
method_word Pap = codes "ask"
method_word Chap = codes "chap"

-- the line without its moment: its words, joined by one space
unfoldable pub text_without_moment : Method → (words : List (List ℕ)) → List ℕ
text_without_moment method words = join_with_byte 32 (method_word method ∷ words)

-- the request of the words NAS NAME PASSWORD ID [station=S], on a line with this text
unfoldable pub access_request : Method → (text : List ℕ) → (words : List (List ℕ))
    → Option AccessRequest
access_request method text (nas ∷ name ∷ password ∷ id ∷ rest) = do
  nas ← read_nas nas
  name ← read_name name
  password ← read_password password
  id ← read_id id
  station ← read_station rest
  Some (record {
    method = method;
    text = text;
    nas = nas;
    name = name;
    password = password;
    id = id;
    station = station;
  })
access_request method text _ = None

-- what the words after the moment say
unfoldable pub read_access : Method → (words : List (List ℕ)) → Option Happening
read_access method [] = None
read_access method (client ∷ rest) = do
  address ← address_of client
  request ← access_request method (text_without_moment method (client ∷ rest)) rest
  Some (Access address request)
