-- What a row of the table says.
use Rattle.std.proofs.Common.{◌≡◌, ◌<◌, ℕ, zero, suc, List, [], ◌∷◌, get_or, length, map, refl, arith, sym, ap, ◌∙◌}
use Rattle.std.specs.Prelude.{slice_get}
use Rattle.std.specs.Borrow.{Bor}
use Rattle.std.specs.Option.{option_map_or}
use Rattle.rld_counts.specs.Fates.{kind_of, number_of}
use Rattle.rld_counts.specs.declared.cause.Cause.{Cause}
use Rattle.rld_counts.specs.declared.cause.Cause.TheVariants as causes
use Rattle.rld_counts.specs.declared.cause.TheConstants.{TABLE}
use Rattle.rld_counts.specs.declared.kind.Kind.{Kind}
use Rattle.rld_counts.specs.declared.kind.Kind.TheVariants as kinds

row_is : {A C : Type 0} (f : A → C) (none : C) (rows : List A) (i : ℕ) (d : A) → i < length rows
    → f (get_or rows i d) ≡ option_map_or f (slice_get rows i) none
row_is f none [] i d below = absurd (omega arith)
row_is f none (row ∷ rows) zero d below = refl
row_is f none (row ∷ rows) (suc i) d below = row_is f none rows i d (omega arith)

column : {A C : Type 0} (f : A → C) (none : C) (rows : List A) (i : ℕ)
    → option_map_or f (slice_get rows i) none ≡ option_map_or (λ (c : C). c) (slice_get (map f rows) i) none
column f none [] i = refl
column f none (row ∷ rows) zero = refl
column f none (row ∷ rows) (suc i) = column f none rows i

-- a row as the code has it
abbrev pub Row : Type 0
Row = Cause × Kind × Bor (List ℕ) × Bor (List ℕ)

-- what a row says at the number of a cause, where its column is that of the table
pub said_by : {B C : Type 0} (table : List B) (f : Row → C) (g : B → C) (none : C) (rows : List Row) (i number : ℕ) (d : Row)
    → map f rows ≡ map g table → length rows ≡ 38 → i < 38 → i ≡ number
    → f (get_or rows i d) ≡ option_map_or g (slice_get table number) none
said_by {B} {C} table f g none rows i number d same len below is =
    row_is f none rows i d (omega arith) ∙ column f none rows i
    ∙ ap (λ (l : List C). option_map_or (λ (c : C). c) (slice_get l i) none) same
    ∙ sym (column g none table i) ∙ ap (λ (n : ℕ). option_map_or g (slice_get table n) none) is

-- the kind that stands at the number of a cause is its kind
pub kind_is : (cause : Cause) → option_map_or (λ row. row.1) (slice_get TABLE.now (number_of cause)) kinds.Failed ≡ kind_of cause
unfolding kind_of
kind_is causes.Short = refl
kind_is causes.BadLength = refl
kind_is causes.UnknownClient = refl
kind_is causes.WrongCode = refl
kind_is causes.BadSignature = refl
kind_is causes.Unsigned = refl
kind_is causes.UnsignedProxy = refl
kind_is causes.BadAuthenticator = refl
kind_is causes.Malformed = refl
kind_is causes.ProxyTooLong = refl
kind_is causes.NoStatus = refl
kind_is causes.NoSession = refl
kind_is causes.Unauthorized = refl
kind_is causes.BadRequest = refl
kind_is causes.Refused = refl
kind_is causes.Unrecorded = refl
kind_is causes.Unsent = refl
kind_is causes.Unserved = refl
kind_is causes.Accept = refl
kind_is causes.LimitReject = refl
kind_is causes.MalformedReject = refl
kind_is causes.NotOneName = refl
kind_is causes.NotOnePassword = refl
kind_is causes.SeveralChallenges = refl
kind_is causes.UnknownAccount = refl
kind_is causes.WrongPassword = refl
kind_is causes.DisabledAccount = refl
kind_is causes.NoPassword = refl
kind_is causes.UncheckedCredential = refl
kind_is causes.Start = refl
kind_is causes.Stop = refl
kind_is causes.InterimUpdate = refl
kind_is causes.AccountingOn = refl
kind_is causes.AccountingOff = refl
kind_is causes.OtherStatus = refl
kind_is causes.StartUnknown = refl
kind_is causes.StopUnknown = refl
kind_is causes.InterimUpdateUnknown = refl
