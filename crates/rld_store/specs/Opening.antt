-- What the opening of a log finds, and why a log is refused.
use Rattle.std.specs.Prelude.{◌≡◌, ℕ, ◌-◌, ◌<◌, ◌≤◌, List, [], ◌∷◌, ◌++◌, length, map, Err}
use Rattle.std.specs.Borrow.{Bor}
use Rattle.rsl_accounts.specs.Configuration.{Configuration}
use Rattle.rsl_shard.specs.declared.moved.Move.{Move}
use Rattle.rld_books.specs.Saved.{IsServerOf}
use Rattle.rld_books.specs.Server.{ServerSeen, replay}
use Rattle.rld_spelling.specs.Field.{Reading}
use Rattle.rld_spelling.specs.Lists.{all_of}
use Rattle.rld_spelling.specs.declared.fault.Fault.{Fault}
use Rattle.rld_log.specs.Frames.{HasPayloads, IsDamagedAt, frames}
use Rattle.rld_log.specs.Log.{NoMore}
use Rattle.rld_log.specs.declared.log.Ending.{Ending}
use Rattle.rld_spelling.specs.Books.{books_field}
use Rattle.rld_spelling.specs.Headers.{header_at}
use Rattle.rld_spelling.specs.Moves.{moves_field}
use Rattle.rld_spelling.specs.declared.header.Header.{Header}
use Rattle.rld_spelling.specs.declared.moves.Counts.{Counts}
use Rattle.rld_store.specs.Generations.{AreBatches, IsGeneration, IsUnbegun, counts_of, front_octets, octets_of}
use Rattle.rld_store.specs.declared.fault.Malformed.{Malformed}
use Rattle.rld_store.specs.declared.fault.StoreFault.{StoreFault}
use Rattle.rld_store.specs.declared.fault.StoreFault.TheVariants as faults
use Rattle.rld_store.specs.declared.parts.Parts.{Parts}

-- what was found in a generation: its header, the books after its moves, and their number
pub record IsFound (begun : ServerSeen) (moves : List Move) (header found_header : Header)
    (books : ServerSeen) (count : ℕ) : Type 0 where
  pub header_is : found_header ≡ header
  pub books_are : books ≡ replay begun moves
  pub count_is : count ≡ length moves

-- what was found is that of whatever generation the payloads are
abbrev pub IsFoundIn : (config : Configuration) → (payloads : List (List ℕ)) → (found_header : Header)
    → (books : ServerSeen) → (count : ℕ) → Type 0
IsFoundIn config payloads found_header books count =
    (header : Header) (begun : ServerSeen) (moves : List Move)
    → IsServerOf config begun → IsGeneration config header begun moves payloads
    → IsFound begun moves header found_header books count

-- there is a generation: the payloads are one, with this header, and these are the books after its
-- moves, and their number
pub record IsThere (config : Configuration) (payloads : List (List ℕ)) (header : Header)
    (books : ServerSeen) (count : ℕ) : Type 0 where
  pub begun : ServerSeen
  pub begun_is : IsServerOf config begun
  pub moves : List Move
  pub generation : IsGeneration config header begun moves payloads
  pub books_are : books ≡ replay begun moves
  pub count_is : count ≡ length moves

-- the whole frames of a file have such a generation
pub record IsThereIn (config : Configuration) (file : List ℕ) (header : Header)
    (books : ServerSeen) (count : ℕ) : Type 0 where
  pub payloads : List (List ℕ)
  pub has : HasPayloads file payloads
  pub there : IsThere config payloads header books count

-- payloads spell batches, whose moves make these books of those that were there, and are this many
pub record AreReplayed (counts : Counts) (payloads : List (List ℕ)) (begun books : ServerSeen)
    (count : ℕ) : Type 0 where
  pub moves : List Move
  pub batches : AreBatches counts moves payloads
  pub books_are : books ≡ replay begun moves
  pub count_is : count ≡ length moves

-- the parts of a generation of these payloads, and where the first two end
pub record AreParts (payloads : List (List ℕ)) (parts : Parts) : Type 0 where
  pub are : payloads ≡ parts.front.payload.now ∷ parts.snapshot.payload.now
      ∷ map (λ (payload : Bor (List ℕ)). payload.now) parts.batches.now
  pub front_end : parts.front.end ≡ length (frames (parts.front.payload.now ∷ []))
  pub snapshot_end : parts.snapshot.end
      ≡ length (frames (parts.front.payload.now ∷ parts.snapshot.payload.now ∷ []))

-- why payloads have no parts: there is no snapshot
abbrev pub IsWhyNoParts : (payloads : List (List ℕ)) → StoreFault → Type 0
IsWhyNoParts payloads faults.Unbegun = length payloads < 2
IsWhyNoParts payloads faults.TooLong = Unit {0}
IsWhyNoParts payloads _ = ⊥

-- a payload that ends at this octet of the log, read so, has this as its first fault
pub record IsFirstFault {A : Type 0} (read : List ℕ → Reading A) (end : ℕ) (payload : List ℕ)
    (malformed : Malformed) : Type 0 where
  pub fault : Fault
  pub read_is : all_of (read payload) ≡ Err fault
  pub offset_is : malformed.offset ≡ end - fault.left
  pub cause_is : malformed.cause ≡ fault.cause

-- a payload that ends at this octet of the log, read from its front so, has this as its first fault
pub record IsFrontFault {A : Type 0} (read : List ℕ → Reading A) (end : ℕ) (payload : List ℕ)
    (malformed : Malformed) : Type 0 where
  pub fault : Fault
  pub read_is : read payload ≡ Err fault
  pub offset_is : malformed.offset ≡ end - fault.left
  pub cause_is : malformed.cause ≡ fault.cause

-- why a table, which ends at this octet of the log, is not the own one
abbrev pub IsWhyOther : (own : List ℕ) → (end : ℕ) → (found : List ℕ) → StoreFault → Type 0
IsWhyOther own end found faults.NoMemory = Unit {0}
IsWhyOther own end found (faults.OtherTable offset) = (found ≡ own → ⊥) × (offset ≡ end - length found)
IsWhyOther own end found _ = ⊥

-- the table that begins at this octet of the log, behind the header, is another one
pub record HasOtherTable (table : List ℕ) (payloads : List (List ℕ)) (offset : ℕ) : Type 0 where
  pub header : Header
  pub found : List ℕ
  pub rest : List (List ℕ)
  pub there : payloads ≡ front_octets header found ∷ rest
  pub other : found ≡ table → ⊥
  pub offset_is : offset ≡ length (frames (front_octets header found ∷ [])) - length found

-- why a payload that ends at this octet has no books
abbrev pub IsWhyNoBooks : (clients : ℕ) → (end : ℕ) → (payload : List ℕ) → StoreFault → Type 0
IsWhyNoBooks clients end payload faults.NoMemory = Unit {0}
IsWhyNoBooks clients end payload (faults.Malformed malformed) =
    IsFirstFault (books_field clients).read end payload malformed
IsWhyNoBooks clients end payload (faults.Misfit offset fault) = offset ≡ end - length payload
IsWhyNoBooks clients end payload _ = ⊥

-- why a payload that ends at this octet has no moves
abbrev pub IsWhyNoMoves : Counts → (end : ℕ) → (payload : List ℕ) → StoreFault → Type 0
IsWhyNoMoves counts end payload faults.NoMemory = Unit {0}
IsWhyNoMoves counts end payload (faults.Malformed malformed) =
    IsFirstFault (moves_field counts).read end payload malformed
IsWhyNoMoves counts end payload _ = ⊥

-- why the frames of a log are not read: a call of it failed, or it is damaged
abbrev pub IsWhyNoFrames : (file : List ℕ) → StoreFault → Type 0
IsWhyNoFrames file (faults.Damaged damage) = IsDamagedAt file damage.offset
IsWhyNoFrames file (faults.Log fault) = Unit {0}
IsWhyNoFrames file _ = ⊥

-- a payload stands after these among those of a log, and ends at this octet of it
pub record IsAt (payloads before : List (List ℕ)) (payload : List ℕ) (end : ℕ) : Type 0 where
  pub rest : List (List ℕ)
  pub there : payloads ≡ before ++ payload ∷ rest
  pub end_is : end ≡ length (frames (before ++ payload ∷ []))

-- the payload after these begins at this octet of the log
pub record BeginsAt (payloads before : List (List ℕ)) (offset : ℕ) : Type 0 where
  pub payload : List ℕ
  pub end : ℕ
  pub at : IsAt payloads before payload end
  pub offset_is : offset ≡ end - length payload

-- a payload after these spells nothing that can be there: the first has a header at its front, the
-- second is a snapshot, each other a batch
abbrev pub SpellsNothing : Counts → (before : List (List ℕ)) → (end : ℕ) → (payload : List ℕ)
    → Malformed → Type 0
SpellsNothing counts [] = IsFrontFault header_at
SpellsNothing counts (header ∷ []) = IsFirstFault (books_field counts.clients).read
SpellsNothing counts (header ∷ snapshot ∷ batches) = IsFirstFault (moves_field counts).read

pub record IsMalformed (counts : Counts) (payloads : List (List ℕ)) (malformed : Malformed)
    : Type 0 where
  pub before : List (List ℕ)
  pub payload : List ℕ
  pub end : ℕ
  pub at : IsAt payloads before payload end
  pub spells_nothing : SpellsNothing counts before end payload malformed

-- a batch begins at this octet of the log
pub record IsBatchAt (payloads : List (List ℕ)) (offset : ℕ) : Type 0 where
  pub before : List (List ℕ)
  pub later : 2 ≤ length before
  pub begins : BeginsAt payloads before offset

-- why payloads are not read: there is no snapshot, one is malformed, or what one spells is of other
-- accounts
abbrev pub IsWhyUnread : Counts → (table : List ℕ) → (payloads : List (List ℕ)) → StoreFault → Type 0
IsWhyUnread counts table payloads faults.Unbegun = length payloads < 2
IsWhyUnread counts table payloads (faults.OtherTable offset) = HasOtherTable table payloads offset
IsWhyUnread counts table payloads (faults.Malformed malformed) = IsMalformed counts payloads malformed
IsWhyUnread counts table payloads (faults.Misfit offset fault) =
    (header : List ℕ) × BeginsAt payloads (header ∷ []) offset
IsWhyUnread counts table payloads (faults.Foreign offset) = IsBatchAt payloads offset
IsWhyUnread counts table payloads faults.NoMemory = Unit {0}
IsWhyUnread counts table payloads faults.TooLong = Unit {0}
IsWhyUnread counts table payloads _ = ⊥

-- why a log that was read is refused: the snapshot is not whole, or a payload is malformed or of
-- other accounts
abbrev pub IsWhy : Counts → (table : List ℕ) → (file : List ℕ) → StoreFault → Type 0
IsWhy counts table file faults.Unbegun = IsUnbegun file
IsWhy counts table file (faults.OtherTable offset) =
    (payloads : List (List ℕ)) × (HasPayloads file payloads × HasOtherTable table payloads offset)
IsWhy counts table file (faults.Malformed malformed) =
    (payloads : List (List ℕ)) × (HasPayloads file payloads × IsMalformed counts payloads malformed)
IsWhy counts table file (faults.Misfit offset fault) =
    (payloads : List (List ℕ)) × (HasPayloads file payloads
    × ((header : List ℕ) × BeginsAt payloads (header ∷ []) offset))
IsWhy counts table file (faults.Foreign offset) =
    (payloads : List (List ℕ)) × (HasPayloads file payloads × IsBatchAt payloads offset)
IsWhy counts table file (faults.Damaged damage) = ⊥
IsWhy counts table file _ = Unit {0}

-- a fault that is not of a call of the log
abbrev pub IsOfNoLog : StoreFault → Type 0
IsOfNoLog (faults.Log fault) = ⊥
IsOfNoLog _ = Unit {0}

-- a fault that is not of a call of the log leaves the log as it was
abbrev pub LeavesAsItWas : StoreFault → (old new : List ℕ)
    → (old_outcomes new_outcomes : Ending → List ℕ → Type 0) → Type 0
LeavesAsItWas (faults.Log fault) old new old_outcomes new_outcomes = Unit {0}
LeavesAsItWas _ old new old_outcomes new_outcomes = (new ≡ old) × NoMore old_outcomes new_outcomes
