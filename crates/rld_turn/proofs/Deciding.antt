-- The decisions of a batch, move by move.
use Rattle.std.proofs.Common.{◌≡◌, List, [], ◌∷◌, ◌++◌, length, refl, ap, ◌∙◌}
use Rattle.std.specs.Prelude.{Some, None, Ok, Err}
use Rattle.rsl_shard.specs.declared.moved.Move.{Move}
use Rattle.rld_books.specs.Server.{ServerSeen, decision_in, decisions_of, journal_of, replay, server_after}
use Rattle.rld_turn.specs.Ended.{decision_at}
use Rattle.rld_turn.specs.Recorded.{HasDecided, IsOf, Outcome, books_before, decisions_in, is_recorded, recorded_in}

-- the decision on a move is that of the books at that point
pub decided_at : (begun : ServerSeen) (before : List Move) (moved : Move) (after : List Move)
    → decision_at (decisions_of begun (before ++ moved ∷ after)) (length before)
    ≡ decision_in (replay begun before) moved
unfolding journal_of replay
decided_at begun [] moved after = refl
decided_at begun (first ∷ before) moved after = decided_at (server_after begun first) before moved after

-- what was recorded has the decisions of the books before it on this batch
pub has_decided : (outcome : Outcome) (batch : List Move) → IsOf batch (recorded_in outcome)
    → HasDecided (books_before (recorded_in outcome)) batch (decisions_in outcome)
has_decided (Ok None) batch whole = tt
has_decided (Ok (Some recorded)) batch (same, decided) =
    decided.decided ∙ ap (decisions_of recorded.before) same
has_decided (Err fault) batch whole = tt

pub same_recorded : (outcome : Outcome)
    → is_recorded (decisions_in outcome) ≡ is_recorded (recorded_in outcome)
same_recorded (Ok None) = refl
same_recorded (Ok (Some recorded)) = refl
same_recorded (Err fault) = refl
