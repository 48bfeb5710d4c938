-- Which requests are refused by their head.
use Rattle.std.specs.Prelude.{◌≡◌, ℕ, Bool, false, true, not, if◌then◌else◌, List, [], ◌∷◌, codes, drop, filter, map, bytes_eq, Option, Some, None}
use Rattle.std.specs.Str.{str_eq_ignore_ascii_case}
use Rattle.httparse.specs.Grammar.{RequestHead}
use Rattle.httparse.specs.Spans.{name_and_value}
use Rattle.http1.specs.Message.{AcceptsRequest}
use Rattle.http1.specs.declared.conn.Limits.{Limits}
use Rattle.http1.specs.declared.framing.Framing.{Framing}
use Rattle.rld_ask.specs.declared.refusal.Refusal.{Refusal}
use Rattle.rld_ask.specs.declared.refusal.Refusal.TheVariants.{Token, Path, Method}

-- the field with which whoever asks shows who he is (RFC 9110 section 11.6.2)
abbrev pub is_authorization : (name : List ℕ) → Bool
is_authorization name = str_eq_ignore_ascii_case name (codes "authorization")

abbrev pub is_only : (credentials : List ℕ) → (fields : List (List ℕ × List ℕ)) → Bool
is_only credentials [] = false
is_only credentials (field ∷ []) = bytes_eq field.1 credentials
is_only credentials (field ∷ other ∷ others) = false

-- exactly one field Authorization is there, and it shows the token
abbrev pub shows_token : (credentials : List ℕ) → (fields : List (List ℕ × List ℕ)) → Bool
shows_token credentials fields = is_only credentials (filter (λ (field : List ℕ × List ℕ). is_authorization field.0) fields)

-- why a request is refused, if it is
abbrev pub refusal_of : (credentials : List ℕ) → (fields : List (List ℕ × List ℕ)) → (path method : List ℕ) → Option Refusal
refusal_of credentials fields path method =
    if not (shows_token credentials fields) then Some Token
    else if not (bytes_eq path (codes "/ask")) then Some Path
    else if not (bytes_eq method (codes "POST")) then Some Method
    else None

-- the same, by the head of the grammar (RFC 9112 section 2.1)
abbrev pub refusal_by : (credentials : List ℕ) → RequestHead → Option Refusal
refusal_by credentials head = refusal_of credentials (map name_and_value head.fields) head.target head.method

-- the input begins with a head that is accepted, and this is why its request is refused
pub record IsJudged (credentials : List ℕ) (limits : Limits) (input : List ℕ) (refusal : Option Refusal) : Type 0 where
  pub head : RequestHead
  pub framing : Framing
  pub len : ℕ
  pub accepts : AcceptsRequest limits input head framing (drop len input)
  pub is : refusal ≡ refusal_by credentials head

-- a request whose refusal this is has shown the token
abbrev pub is_shown_by : (refusal : Option Refusal) → Bool
is_shown_by (Some Token) = false
is_shown_by (Some Path) = true
is_shown_by (Some Method) = true
is_shown_by None = true

-- the input begins with a head that is accepted, and that shows the token
pub record HasShown (credentials : List ℕ) (limits : Limits) (input : List ℕ) : Type 0 where
  pub head : RequestHead
  pub framing : Framing
  pub len : ℕ
  pub accepts : AcceptsRequest limits input head framing (drop len input)
  pub shows : shows_token credentials (map name_and_value head.fields) ≡ true
