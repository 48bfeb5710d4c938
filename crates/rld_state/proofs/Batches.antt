-- What recording a batch leaves of a store: a decision on each move, or the history as it was.
use Rattle.std.proofs.Common.{◌≡◌, ◌⊎◌, inl, inr, ℕ, suc, List, [], ◌∷◌, length, refl, ap, ◌∙◌}
use Rattle.std.proofs.lemmas.List.{length-map}
use Rattle.rsl_accounts.specs.Configuration.{Configuration}
use Rattle.rsl_shard.specs.declared.line.Line.{Line}
use Rattle.rsl_shard.specs.declared.moved.Move.{Move}
use Rattle.rld_books.specs.Server.{ServerSeen, decisions_of, journal_of, server_after}
use Rattle.rld_log.specs.declared.log.Ending.{Ending}
use Rattle.rld_store.specs.Standing.{StandsFor}
use Rattle.rld_store.specs.Stored.{HasRecorded}
use Rattle.rld_store.specs.declared.store.End.{End}

count_lines : (begun : ServerSeen) (moves : List Move)
    → length (journal_of begun moves) ≡ length moves
unfolding journal_of
count_lines begun [] = refl
count_lines begun (first ∷ moves) = ap suc (count_lines (server_after begun first) moves)

-- there is a decision on each move
pub count_decided : (begun : ServerSeen) (moves : List Move)
    → length (decisions_of begun moves) ≡ length moves
count_decided begun moves =
    length-map (journal_of begun moves) (λ (line : Line). line.decision) ∙ count_lines begun moves

-- a batch was not recorded: it or the one before it is left unanswered
pub recorded_still : (config : Configuration) (opening : ServerSeen)
    (tears : List ℕ → List ℕ → Type 0) (end : End) (seen : List ℕ)
    (may_leave : Ending → List ℕ → Type 0) (whole : ℕ)
    (books : ServerSeen) (history before batch : List Move)
    → StandsFor config opening tears end seen may_leave whole books history before
    ⊎ StandsFor config opening tears end seen may_leave whole books history batch
    → HasRecorded config opening tears end seen may_leave whole books history
recorded_still config opening tears end seen may_leave whole books history before batch (inl so) =
    record { unanswered = before; stands = so }
recorded_still config opening tears end seen may_leave whole books history before batch (inr so) =
    record { unanswered = batch; stands = so }
