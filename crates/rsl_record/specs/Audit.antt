-- Whether the record of a shard was kept right, and the first fault of one that was not.
--
-- The segments of a record follow one another from new books, and each line has the decision of the
-- session rule. The rule looks back over the own events of the line's account in all lines before
-- it, also those of earlier segments; no book is used for that.
use Rattle.std.specs.Prelude.{◌≡◌, ℕ, ◌+◌, ◌^◌, ◌<◌, ⊤, List, [], ◌∷◌, ◌++◌, length, slice_get, take, Option, Some, None}
use Rattle.rsl_accounts.specs.Configuration.{Configuration}
use Rattle.rsl_record.specs.Restep.{books_by_restep, rule_decision}
use Rattle.rsl_record.specs.Segments.{lines_of}
use Rattle.rsl_record.specs.declared.audit_fault.AuditFault.{AuditFault}
use Rattle.rsl_record.specs.declared.audit_fault.AuditFault.TheVariants.{NotFromEmpty, Gap, WrongDecision, NoMemory}
use Rattle.rsl_shard.specs.declared.segment.Segment.{Segment}
use Rattle.rsl_shard.specs.Moves.{IsTaken}
use Rattle.rsl_shard.specs.Setup.{setup_of}
use Rattle.rsl_shard.specs.declared.line.Line.{Line}
use Rattle.rsl_shard.specs.declared.moved.Move.{Move}
use Rattle.rsl_shard.specs.declared.moved.Move.TheVariants.{Own}

-- ---- a record that was kept right

-- the shard takes the line's move, and its decision is the rule's
pub record IsRight (config : Configuration) (shard : ℕ) (before : List Line) (line : Line)
    : Type 0 where
  pub taken : IsTaken (setup_of config shard) line.moved
  pub ruled : line.decision ≡ rule_decision config before line.moved

-- each of some lines after others is right
unfoldable pub AreRight : Configuration → (shard : ℕ) → (before : List Line) → List Line → Type 0
AreRight config shard before [] = ⊤
AreRight config shard before (line ∷ lines) =
    IsRight config shard before line × AreRight config shard (before ++ line ∷ []) lines

-- the segment follows the lines before it
pub record Joins (config : Configuration) (shard : ℕ) (before : List Line) (segment : Segment)
    : Type 0 where
  pub of_shard : segment.shard ≡ shard
  pub first : segment.first ≡ length before
  pub count : length before + length segment.lines.items < 2 ^ 64
  pub opening : segment.opening.items ≡ books_by_restep config shard before

-- the segments follow the lines before them, one after another, and their lines are right
unfoldable pub AreJoined : Configuration → (shard : ℕ) → (before : List Line) → List Segment
    → Type 0
AreJoined config shard before [] = ⊤
AreJoined config shard before (segment ∷ segments) =
    Joins config shard before segment × AreRight config shard before segment.lines.items
    × AreJoined config shard (before ++ segment.lines.items) segments

-- a first segment is of a shard, and opens with its new books
pub record BeginsNew (config : Configuration) (segment : Segment) : Type 0 where
  pub shard : segment.shard < config.settings.shards
  pub first : segment.first ≡ 0
  pub opening : segment.opening.items ≡ books_by_restep config segment.shard []

-- a record that was kept right; one without segments is
abbrev pub IsRecord : Configuration → List Segment → Type 0
IsRecord config [] = ⊤
IsRecord config (segment ∷ segments) =
    BeginsNew config segment × AreJoined config segment.shard [] (segment ∷ segments)

-- ---- the first fault of one that was not

-- the account of an account's own move
abbrev pub account_of : Move → Option ℕ
account_of (Own account event) = Some account
account_of _ = None

-- the line at an index is not right, and those ahead of it are
pub record IsFirstWrong (config : Configuration) (shard : ℕ) (before lines : List Line) (at : ℕ)
    (line : Line) : Type 0 where
  pub right : AreRight config shard before (take at lines)
  pub there : slice_get lines at ≡ Some line
  pub wrong : IsRight config shard (before ++ take at lines) line → ⊥

-- a fault of lines after others names its account and its position: that of the first wrong line
abbrev pub IsFaultOfLines : Configuration → (shard : ℕ) → (before lines : List Line) → AuditFault
    → Type 0
IsFaultOfLines config shard before lines (WrongDecision account position) =
    (at : ℕ) × (line : Line) × IsFirstWrong config shard before lines at line
    × (account ≡ account_of line.moved) × (position ≡ length before + at)
IsFaultOfLines config shard before lines NoMemory = ⊤
IsFaultOfLines config shard before lines _ = ⊥

-- a fault of the segment with this number: it does not follow the lines before it, or it does, and
-- the fault is one of its lines
abbrev pub IsFaultOfSegment : Configuration → (shard : ℕ) → (before : List Line) → (number : ℕ)
    → Segment → AuditFault → Type 0
IsFaultOfSegment config shard before number segment (Gap named) =
    (named ≡ number) × (Joins config shard before segment → ⊥)
IsFaultOfSegment config shard before number segment (WrongDecision account position) =
    Joins config shard before segment
    × IsFaultOfLines config shard before segment.lines.items (WrongDecision account position)
IsFaultOfSegment config shard before number segment NoMemory = ⊤
IsFaultOfSegment config shard before number segment NotFromEmpty = ⊥

-- a fault of the segment with this number, when those before it are joined and right
pub record IsFaultAt (config : Configuration) (shard : ℕ) (segments : List Segment)
    (fault : AuditFault) (number : ℕ) (segment : Segment) : Type 0 where
  pub joined : AreJoined config shard [] (take number segments)
  pub there : slice_get segments number ≡ Some segment
  pub told : IsFaultOfSegment config shard (lines_of (take number segments)) number segment fault

-- a fault of segments of a shard is that of one of them
abbrev pub IsFaultOfSegments : Configuration → (shard : ℕ) → List Segment → AuditFault → Type 0
IsFaultOfSegments config shard segments fault =
    (number : ℕ) × (segment : Segment) × IsFaultAt config shard segments fault number segment

-- The fault is there, and no fault comes before it: the opening of the first segment is checked
-- first, and then one segment after the other, first its opening and then its lines.
abbrev pub IsFirstFault : Configuration → List Segment → AuditFault → Type 0
IsFirstFault config [] fault = ⊥
IsFirstFault config (first ∷ segments) NotFromEmpty = BeginsNew config first → ⊥
IsFirstFault config (first ∷ segments) NoMemory = ⊤
IsFirstFault config (first ∷ segments) fault =
    BeginsNew config first × IsFaultOfSegments config first.shard (first ∷ segments) fault
