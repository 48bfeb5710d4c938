-- What a store stands for: a history, which its log has, and whose moves make its books of those
-- with which it opened.
use Rattle.std.specs.Prelude.{◌≡◌, ℕ, List, length}
use Rattle.std.specs.List.{AllByRecursion}
use Rattle.rsl_accounts.specs.Configuration.{Configuration}
use Rattle.rsl_shard.specs.declared.moved.Move.{Move}
use Rattle.rld_books.specs.Server.{ServerSeen, replay}
use Rattle.rld_log.specs.Frames.{Fits, frames}
use Rattle.rld_log.specs.Log.{Extends}
use Rattle.rld_store.specs.Premises.{Premise}
use Rattle.rld_log.specs.Recording.{IsSettled, LeavesEither}
use Rattle.rld_log.specs.declared.log.Ending.{Ending}
use Rattle.rld_spelling.specs.Moves.{moves_field}
use Rattle.rld_store.specs.Generations.{AreOfHistory, HasHistoryOr, counts_of}
use Rattle.rld_store.specs.declared.store.End.{End}
use Rattle.rld_store.specs.declared.store.End.TheVariants.{Settled, Unsettled}

-- a log at whose end an append may have left something: a crash leaves the payloads, or the
-- payloads and that of the append
pub record IsUnsettled (tears : List ℕ → List ℕ → Type 0) (seen : List ℕ)
    (may_leave : Ending → List ℕ → Type 0) (payloads : List (List ℕ)) (unanswered : List ℕ)
    : Type 0 where
  pub fit : AllByRecursion Fits payloads
  pub front : Extends (frames payloads) seen
  pub left : (ending : Ending) → Premise tears ending
      → LeavesEither (may_leave ending) payloads unanswered

-- how the log of a store ends
abbrev pub EndsSo : End → (tears : List ℕ → List ℕ → Type 0) → (seen : List ℕ)
    → (may_leave : Ending → List ℕ → Type 0) → (payloads : List (List ℕ))
    → (unanswered : List ℕ) → Type 0
EndsSo Settled tears seen may_leave payloads unanswered = IsSettled seen may_leave payloads
EndsSo Unsettled tears seen may_leave payloads unanswered =
    IsUnsettled tears seen may_leave payloads unanswered

-- The log has a history, and at its end perhaps an unanswered batch; the books are what the history
-- makes of those with which it opened.
pub record StandsFor (config : Configuration) (opening : ServerSeen)
    (tears : List ℕ → List ℕ → Type 0) (end : End) (seen : List ℕ)
    (may_leave : Ending → List ℕ → Type 0) (whole : ℕ) (books : ServerSeen)
    (history unanswered : List Move) : Type 0 where
  pub payloads : List (List ℕ)
  pub are : AreOfHistory config opening history payloads
  pub unanswered_fits : (moves_field (counts_of config)).Fits unanswered
  pub size : whole ≡ length (frames payloads)
  pub ends : EndsSo end tears seen may_leave payloads
      ((moves_field (counts_of config)).spell unanswered)
  pub replayed : books ≡ replay opening history

-- a crash leaves the history, or the history and the unanswered batch, whole
abbrev pub LosesNothing : (config : Configuration) → (opening : ServerSeen)
    → (tears : List ℕ → List ℕ → Type 0) → (may_leave : Ending → List ℕ → Type 0)
    → (history unanswered : List Move) → Type 0
LosesNothing config opening tears may_leave history unanswered =
    (ending : Ending) → Premise tears ending → (left : List ℕ) → may_leave ending left
    → HasHistoryOr config opening history unanswered left
