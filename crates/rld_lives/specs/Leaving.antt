-- What a life leaves: a store that stands for a history, and what a crash leaves of its log, or of
-- the two logs of a roll.
use Rattle.std.specs.Prelude.{◌⊎◌, ℕ, List, [], ◌∷◌, ◌++◌, Option, Some, None}
use Rattle.rsl_accounts.specs.Configuration.{Configuration}
use Rattle.rld_books.specs.Server.{ServerSeen}
use Rattle.rsl_shard.specs.declared.moved.Move.{Move}
use Rattle.rld_log.specs.declared.log.Ending.{Ending}
use Rattle.rld_store.specs.Generations.{HasHistory, IsUnbegun}
use Rattle.rld_store.specs.Premises.{Only}
use Rattle.rld_store.specs.Standing.{StandsFor}
use Rattle.rld_store.specs.declared.store.End.{End}
use Rattle.rld_lives.specs.Life.{AreLives, IsLife, IsLifeTold, Outcome}
use Rattle.rld_lives.specs.declared.living.Step.{Step}
use Rattle.rld_lives.specs.declared.living.Step.TheVariants.{Batch, Roll}

-- the moves of each batch of a life
abbrev pub batches_of : List Step → List (List Move)
batches_of [] = []
batches_of (Batch batch ∷ steps) = batch.items ∷ batches_of steps
batches_of (Roll header ∷ steps) = batches_of steps

-- A store stands for a history that a life leaves after another history, and perhaps for a batch
-- that was not answered: with that batch too it is a history that the life leaves.
pub record StandsAfter (config : Configuration) (opening : ServerSeen)
    (tears : List ℕ → List ℕ → Type 0) (end : End) (seen : List ℕ)
    (may_leave : Ending → List ℕ → Type 0) (whole : ℕ) (books : ServerSeen)
    (history : List Move) (batches : List (List Move)) (outcomes : List Outcome) : Type 0 where
  pub left : List Move
  pub unanswered : List Move
  pub stands : StandsFor config opening tears end seen may_leave whole books left unanswered
  pub life : IsLife opening history batches outcomes left
  pub also : IsLife opening history batches outcomes (left ++ unanswered)

-- holds of the newest log, and of the older one beside it, if there is one
abbrev pub OfEach : {L : Type 0} → (P : L → Type 0) → (older : Option L) → (newest : L) → Type 0
OfEach P None newest = P newest
OfEach P (Some older) newest = P older × P newest

-- A crash of this kind has left a log, and another one then leaves nothing else.
pub record IsLeft {L : Type 0} (seen : L → List ℕ) (may_leave : L → Ending → List ℕ → Type 0)
    (ending : Ending) (log : L) : Type 0 where
  pub before : L
  pub left : may_leave before ending (seen log)
  pub settled : Only (seen log) (may_leave log)

-- Logs have a history. Of two the newest counts if its snapshot is whole, and else the older one.
abbrev pub HaveHistory : {L : Type 0} → (config : Configuration) → (opening : ServerSeen)
    → (history : List Move) → (seen : L → List ℕ) → (older : Option L) → (newest : L) → Type 0
HaveHistory config opening history seen None newest =
    HasHistory config opening history (seen newest)
HaveHistory config opening history seen (Some older) newest =
    HasHistory config opening history (seen newest)
    ⊎ (IsUnbegun (seen newest) × HasHistory config opening history (seen older))

-- logs have the history that a life left after another history, which opened with these books
pub record HasLived {L : Type 0} (config : Configuration) (opening : ServerSeen)
    (history : List Move) (batches : List (List Move)) (told : Option (List Outcome))
    (seen : L → List ℕ) (older : Option L) (newest : L) : Type 0 where
  pub left : List Move
  pub life : IsLifeTold opening history batches told left
  pub have : HaveHistory config opening left seen older newest

-- logs have the history that lives left after another history
pub record HaveLived {L : Type 0} (config : Configuration) (opening : ServerSeen)
    (history : List Move) (plans : List (List (List Move))) (told : List (Option (List Outcome)))
    (seen : L → List ℕ) (older : Option L) (newest : L) : Type 0 where
  pub left : List Move
  pub lives : AreLives opening history plans told left
  pub have : HaveHistory config opening left seen older newest
