-- The decisions of a batch, one a move.
use Rattle.std.proofs.Common.{◌≡◌, suc, List, [], ◌∷◌, length, refl, ap, ◌∙◌}
use Rattle.std.proofs.lemmas.List.{length-map}
use Rattle.rsl_shard.specs.declared.line.Line.{Line}
use Rattle.rsl_shard.specs.declared.moved.Move.{Move}
use Rattle.rld_books.specs.Server.{ServerSeen, decisions_of, journal_of, server_after}

count_lines : (begun : ServerSeen) (moves : List Move)
    → length (journal_of begun moves) ≡ length moves
unfolding journal_of
count_lines begun [] = refl
count_lines begun (first ∷ moves) = ap suc (count_lines (server_after begun first) moves)

-- there is a decision on each move
pub count_decided : (begun : ServerSeen) (moves : List Move)
    → length (decisions_of begun moves) ≡ length moves
count_decided begun moves = length-map (journal_of begun moves) (λ (line : Line). line.decision) ∙ count_lines begun moves
