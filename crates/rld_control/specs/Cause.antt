-- What an Error-Cause says (RFC 5176 section 3.5).
use Rattle.std.specs.Prelude.{ℕ, ◌==◌, List, [], ◌∷◌, codes, Option, Some, None, if◌then◌else◌}

-- a number and what it says
pub record Named : Type 0 where
  pub cause : ℕ
  pub name : List ℕ

abbrev pub named : (cause : ℕ) (name : List ℕ) → Named
named cause name = record { cause = cause; name = name }

-- the table of the RFC
abbrev pub causes : List Named
causes =
    named 201 (codes "residual session context removed")
    ∷ named 202 (codes "invalid EAP packet (ignored)")
    ∷ named 401 (codes "unsupported attribute")
    ∷ named 402 (codes "missing attribute")
    ∷ named 403 (codes "NAS identification mismatch")
    ∷ named 404 (codes "invalid request")
    ∷ named 405 (codes "unsupported service")
    ∷ named 406 (codes "unsupported extension")
    ∷ named 407 (codes "invalid attribute value")
    ∷ named 501 (codes "administratively prohibited")
    ∷ named 502 (codes "request not routable (proxy)")
    ∷ named 503 (codes "session context not found")
    ∷ named 504 (codes "session context not removable")
    ∷ named 505 (codes "other proxy processing error")
    ∷ named 506 (codes "resources unavailable")
    ∷ named 507 (codes "request initiated")
    ∷ named 508 (codes "multiple session selection unsupported")
    ∷ []

-- the name of a number among these
abbrev pub name_among : List Named → (cause : ℕ) → Option (List ℕ)
name_among [] cause = None
name_among (row ∷ rows) cause = if cause == row.cause then Some row.name else name_among rows cause

abbrev pub cause_name : (cause : ℕ) → Option (List ℕ)
cause_name cause = name_among causes cause
