-- Which connections have which asks, and which answer each is given.
use Rattle.std.specs.Prelude.{◌≡◌, ◌⊎◌, ⊤, ℕ, Bool, true, false, not, nat_le, List, [], ◌∷◌, ◌++◌, drop, length, position, remove, cond, Option, Some, None, Result, slice_get}
use Rattle.std.specs.List.{flat_map}
use Rattle.rld_ask.specs.Form.{form_of}
use Rattle.rsl_reply.specs.declared.dictionary.Dictionary.{Dictionary}
use Rattle.rld_ask.specs.Sending.{IsTold}
use Rattle.rld_ask.specs.declared.ask_connection.AskConnection.{AskConnection}
use Rattle.rld_ask.specs.declared.ask_connection.Phase.{Phase}
use Rattle.rld_ask.specs.declared.ask_connection.Phase.TheVariants.{Ends, Waits}
use Rattle.rld_ask.specs.declared.asked.Answer.{Answer}
use Rattle.rld_ask.specs.declared.form.AskForm.{AskForm}
use Rattle.rld_ask.specs.declared.fault.FormFault.{FormFault}

abbrev pub is_waiting : Phase → Bool
is_waiting Waits = true
is_waiting _ = false

abbrev pub has_ended : Phase → Bool
has_ended Ends = true
has_ended _ = false

-- the ask of a connection that waits
abbrev pub forms_of : AskConnection → List (Result AskForm FormFault)
forms_of connection = cond (is_waiting connection.phase) (form_of connection.form.items ∷ []) []

abbrev pub asks_in : List AskConnection → List (Result AskForm FormFault)
asks_in connections = flat_map forms_of connections

-- ---- room for a connection

-- the one that goes where there is no room: the oldest of those that have not shown the token, or else the oldest
abbrev pub has_not_shown : AskConnection → Bool
has_not_shown connection = not connection.has_shown_token

abbrev pub or_first : (index : Option ℕ) → ℕ
or_first (Some index) = index
or_first None = 0

abbrev pub outgoing : List AskConnection → ℕ
outgoing connections = or_first (position has_not_shown connections)

-- those that are left once there is room for one more
abbrev pub with_room : List AskConnection → List AskConnection
with_room connections = cond (nat_le 64 (length connections)) (remove connections (outgoing connections)) connections

-- one more that has not shown the token is taken in, after the others; or it is closed, and the others may have made room
pub record HasTakenIn (old new : List AskConnection) (added : AskConnection) : Type 0 where
  pub is : new ≡ with_room old ++ added ∷ []
  pub unshown : added.has_shown_token ≡ false

pub record IsOneMore (old new : List AskConnection) : Type 0 where
  pub added : AskConnection
  pub taken : HasTakenIn old new added

abbrev pub IsTakenIn : (old new : List AskConnection) → Type 0
IsTakenIn old new = IsOneMore old new ⊎ (new ≡ with_room old) ⊎ (new ≡ old)

-- ---- the answers

-- how a connection is told, where this is the next answer: only if it waits
abbrev pub IsToldIf : Dictionary → AskConnection → Option Answer → AskConnection → Type 0
IsToldIf names old answer new = cond (is_waiting old.phase) (IsTold names old answer new) (new ≡ old)

-- the answers that are left then
abbrev pub answers_after : AskConnection → List Answer → List Answer
answers_after old answers = cond (is_waiting old.phase) (drop 1 answers) answers

-- the first answer is that of the first connection that waits, and so on
abbrev pub AreTold : Dictionary → List AskConnection → (answers : List Answer) → List AskConnection → Type 0
AreTold names [] answers [] = ⊤
AreTold names [] answers (new ∷ news) = ⊥
AreTold names (old ∷ olds) answers [] = ⊥
AreTold names (old ∷ olds) answers (new ∷ news) =
    IsToldIf names old (slice_get answers 0) new × AreTold names olds (answers_after old answers) news
