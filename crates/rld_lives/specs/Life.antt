-- Lives over a log: each opens what a crash left of the one before it, and answers its batches.
use Rattle.std.specs.Prelude.{◌≡◌, ◌⊎◌, ℕ, Bool, List, [], ◌∷◌, ◌++◌, map, slice_get, Option, Some, None, Result, Ok, Err, IsErr}
use Rattle.std.specs.List.{list_any, AllByRecursion}
use Rattle.rsl_event.specs.declared.event.Decision.{Decision}
use Rattle.rsl_shard.specs.declared.line.Line.{Line}
use Rattle.rsl_shard.specs.declared.moved.Move.{Move}
use Rattle.rld_books.specs.Server.{ServerSeen, decisions_of, journal_of, replay}
use Rattle.rld_store.specs.Recorded.{RecordedSeen, is_ended}
use Rattle.rld_store.specs.declared.fault.RecordFault.{RecordFault}
use Rattle.rld_store.specs.declared.fault.RecordFault.TheVariants.{Failed, Ended}

-- the result of a batch: the decisions on its moves, or that it was not recorded
abbrev pub Outcome : Type 0
Outcome = Result RecordedSeen RecordFault

-- whether a batch was refused since nothing more can be recorded
abbrev pub has_ended : List Outcome → Bool
has_ended outcomes = list_any is_ended outcomes

-- The results of batches, one after another, given the books before. A recorded batch has the
-- decisions of the books, which then make its moves. A batch that was not recorded leaves the books
-- as they are, and the next is tried, unless nothing more can be recorded.
abbrev pub AreOutcomes : (server : ServerSeen) → (batches : List (List Move))
    → (outcomes : List Outcome) → Type 0
AreOutcomes server [] outcomes = outcomes ≡ []
AreOutcomes server (batch ∷ batches) [] = ⊥
AreOutcomes server (batch ∷ batches) (Ok answer ∷ outcomes) =
    (answer.decisions ≡ decisions_of server batch) × AreOutcomes (replay server batch) batches outcomes
AreOutcomes server (batch ∷ batches) (Err Failed ∷ outcomes) = AreOutcomes server batches outcomes
AreOutcomes server (batch ∷ batches) (Err Ended ∷ outcomes) = outcomes ≡ []

-- the moves of the batches that were recorded, one batch after another
abbrev pub recorded : (batches : List (List Move)) → (outcomes : List Outcome) → List Move
recorded [] outcomes = []
recorded (batch ∷ batches) [] = []
recorded (batch ∷ batches) (Ok answer ∷ outcomes) = batch ++ recorded batches outcomes
recorded (batch ∷ batches) (Err fault ∷ outcomes) = recorded batches outcomes

-- the moves of a batch that was not recorded, and none after it was, whole; or none
abbrev pub MayBeLeft : (moves : List Move) → (batches : List (List Move))
    → (outcomes : List Outcome) → Type 0
MayBeLeft moves [] outcomes = moves ≡ []
MayBeLeft moves (batch ∷ batches) [] = moves ≡ []
MayBeLeft moves (batch ∷ batches) (Ok answer ∷ outcomes) = MayBeLeft moves batches outcomes
MayBeLeft moves (batch ∷ batches) (Err fault ∷ outcomes) =
    ((moves ≡ batch) × AllByRecursion (λ (outcome : Outcome). IsErr outcome) outcomes)
    ⊎ MayBeLeft moves batches outcomes

-- A life after a history, of which the first life began with these books: its batches are decided
-- by the books after all earlier moves, and the history that it leaves has the moves of those that
-- were recorded, and perhaps those of another one that was not.
pub record IsLife (begun : ServerSeen) (history : List Move) (batches : List (List Move))
    (outcomes : List Outcome) (left : List Move) : Type 0 where
  pub came_out : AreOutcomes (replay begun history) batches outcomes
  pub more : List Move
  pub may_be_left : MayBeLeft more batches outcomes
  pub left_is : left ≡ (history ++ recorded batches outcomes) ++ more

-- `IsLife` of a life that may not have begun: then it tells nothing, and leaves the history
abbrev pub IsLifeTold : (begun : ServerSeen) → (history : List Move)
    → (batches : List (List Move)) → (told : Option (List Outcome)) → (left : List Move) → Type 0
IsLifeTold begun history batches None left = left ≡ history
IsLifeTold begun history batches (Some outcomes) left = IsLife begun history batches outcomes left

-- lives one after another, each after the history that the one before it left
unfoldable pub AreLives : (begun : ServerSeen) → (history : List Move)
    → (plans : List (List (List Move))) → (told : List (Option (List Outcome)))
    → (left : List Move) → Type 0
AreLives begun history [] [] left = left ≡ history
AreLives begun history (batches ∷ plans) (one ∷ told) left =
    (mid : List Move) × IsLifeTold begun history batches one mid
    × AreLives begun mid plans told left
AreLives begun history [] (one ∷ told) left = ⊥
AreLives begun history (batches ∷ plans) [] left = ⊥

-- the journal of a history has the moves of a batch, in order, with these decisions
pub record Stands (begun : ServerSeen) (history batch : List Move) (answer : List Decision)
    : Type 0 where
  pub before : List Line
  pub lines : List Line
  pub after : List Line
  pub journal : journal_of begun history ≡ (before ++ lines) ++ after
  pub moves : map (λ (line : Line). line.moved) lines ≡ batch
  pub decisions : map (λ (line : Line). line.decision) lines ≡ answer

-- However the lives ended, each batch that one of them answered stands in the history that they
-- left, with the decisions that were answered.
abbrev pub WhatIsAnsweredStands : Type 0
WhatIsAnsweredStands =
    (begun : ServerSeen) (history left : List Move) (plans : List (List (List Move)))
    (told : List (Option (List Outcome)))
    → AreLives begun history plans told left
    → (life n : ℕ) (batches : List (List Move)) (outcomes : List Outcome)
    (batch : List Move) (answer : RecordedSeen)
    → slice_get plans life ≡ Some batches → slice_get told life ≡ Some (Some outcomes)
    → slice_get batches n ≡ Some batch → slice_get outcomes n ≡ Some (Ok answer)
    → Stands begun left batch answer.decisions
