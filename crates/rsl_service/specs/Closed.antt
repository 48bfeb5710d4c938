-- What the closing of a service says of its journals and of the passes that were given back.
--
-- A service that came out of its locks has a number of passes that it opened, and the present
-- journals of its shards: its closing is said exactly, by these. No clause sees them under the
-- locks. So the clause on closing a service says that there are such a number and such journals.
use Rattle.std.specs.Prelude.{◌≡◌, ◌≢◌, ℕ, ◌+◌, ◌<◌, ◌≤◌, ◌++◌, ⊤, List, [], ◌∷◌, length, map, Option, Some, None}
use Rattle.std.specs.List.{sum_by}
use Rattle.std.specs.List.Sorted.{IsNonDecreasingBy}
use Rattle.rsl_accounts.specs.Configuration.{Configuration}
use Rattle.rsl_book.specs.RuledBook.{RuledBook}
use Rattle.rsl_record.specs.Segments.{of_shard, shard_lines}
use Rattle.rsl_record.specs.Settled.{IsCloseFault, IsSettled}
use Rattle.rsl_record.specs.declared.close_fault.CloseFault.{CloseFault}
use Rattle.rsl_record.specs.declared.close_fault.CloseFault.TheVariants.{MissingPass, NoMemory}
use Rattle.rsl_record.specs.declared.receipt.Receipt.{Receipt}
use Rattle.rsl_shard.specs.Journal.{IsJournal}
use Rattle.rsl_shard.specs.Opening.{as_new}
use Rattle.rsl_shard.specs.Restep.{new_books}
use Rattle.rsl_shard.specs.Setup.{Setup, setup_of}
use Rattle.rsl_shard.specs.declared.segment.Segment.{Segment}
use Rattle.rsl_service.specs.Receipts.{count_of}

-- the number of lines of a shard to the end of a segment
abbrev pub lines_to : Segment → ℕ
lines_to segment = segment.first + length segment.lines.items

-- The journal that a shard ends with: it begins with a book of each of the shard's accounts, of
-- which `books` are the new ones; the shard takes each move in it, and each decision is that of the
-- books.
pub record IsEnd (setup : Setup) (books : List RuledBook) (segment : Segment) : Type 0 where
  pub shard : segment.shard ≡ setup.shard
  pub opening : map as_new segment.opening.items ≡ books
  pub journal : IsJournal setup segment.opening.items segment.lines.items

-- the journal of a shard, if there is one, as a list
abbrev pub as_list : Option Segment → List Segment
as_list None = []
as_list (Some segment) = segment ∷ []

-- Among the present journals there is one of the shard, its end.
pub record HasEnd (config : Configuration) (present : List Segment) (shard : ℕ) : Type 0 where
  pub segment : Segment
  pub alone : of_shard shard present ≡ segment ∷ []
  pub ended : IsEnd (setup_of config shard) (new_books config shard) segment

-- the journals that all shards end with
abbrev pub HaveEnds : Configuration → (present : List Segment) → Type 0
HaveEnds config present = (shard : ℕ) → shard < config.settings.shards → HasEnd config present shard

-- the number of lines of a shard at its end
abbrev pub end_of : (shard : ℕ) → (present : List Segment) → ℕ
end_of shard present = sum_by lines_to (of_shard shard present)

-- the receipts of all passes of a shard, counted
abbrev pub count_in : (passes : List (List Receipt)) → (shard : ℕ) → ℕ
count_in passes shard = sum_by (count_of shard) passes

-- what a contract sees of a service that came out of its locks
pub record EndedSeen : Type 0 where
  pub config : Configuration
  pub opened : ℕ
  pub present : List Segment

-- The record of an ended service is settled, by the segments given and the present journals.
abbrev pub IsRecordSettled : EndedSeen → (passes : List (List Receipt)) → (given : List Segment)
    → Type 0
IsRecordSettled ended passes given =
    IsSettled ended.config ended.opened passes (given ++ ended.present)

-- The record of an ended service is settled; each shard has as many lines as receipts; and the
-- segments that come back are those given and the present journals, by shard, those of a shard in
-- order.
pub record IsClosedBy (ended : EndedSeen) (passes : List (List Receipt)) (given : List Segment)
    (closed : List Segment) : Type 0 where
  pub settled : IsRecordSettled ended passes given
  pub counted : (shard : ℕ) → shard < ended.config.settings.shards
      → length (shard_lines shard (given ++ ended.present)) ≡ count_in passes shard
  pub same : (shard : ℕ) → of_shard shard closed ≡ of_shard shard (given ++ ended.present)
  pub by_shard : IsNonDecreasingBy (λ segment. segment.shard) closed

-- Why an ended service is not closed: memory was refused; or its record is not settled, and the
-- fault is the first of it. A missing pass is found even if there is no memory.
pub record IsFaultOf (ended : EndedSeen) (passes : List (List Receipt)) (given : List Segment)
    (fault : CloseFault) : Type 0 where
  pub first : IsCloseFault ended.config ended.opened passes (given ++ ended.present) fault
  pub missing : length passes ≢ ended.opened → fault ≡ MissingPass
  pub unsettled : fault ≢ NoMemory → IsRecordSettled ended passes given → ⊥

-- What comes out of the locks of a service: at most 1,024 passes were opened, and the journals are
-- those that its shards end with.
pub record IsEndOf (config : Configuration) (ended : EndedSeen) : Type 0 where
  pub config_kept : ended.config ≡ config
  pub most : ended.opened ≤ 1024
  pub ends : HaveEnds ended.config ended.present

-- what a contract sees of a closed service: its configuration and boot number, the number of passes
-- that it opened, and the segments of all shards
pub record ClosedSeen : Type 0 where
  pub config : Configuration
  pub boot : ℕ
  pub opened : ℕ
  pub segments : List Segment

-- A service is closed if what came out of its locks is.
pub record IsClosed (config : Configuration) (passes : List (List Receipt)) (given : List Segment)
    (closed : List Segment) : Type 0 where
  pub ended : EndedSeen
  pub is_end : IsEndOf config ended
  pub closed_by : IsClosedBy ended passes given closed

-- Why a service could not be closed: memory was refused, perhaps before it came out of its locks;
-- or its record is not settled, and the fault is the first of it.
pub record HasCloseFault (config : Configuration) (passes : List (List Receipt))
    (given : List Segment) (fault : CloseFault) : Type 0 where
  pub ended : EndedSeen
  pub is_end : IsEndOf config ended
  pub first : IsFaultOf ended passes given fault

abbrev pub IsUnsettled : Configuration → (passes : List (List Receipt)) → (given : List Segment)
    → CloseFault → Type 0
IsUnsettled config passes given NoMemory = ⊤
IsUnsettled config passes given fault = HasCloseFault config passes given fault
