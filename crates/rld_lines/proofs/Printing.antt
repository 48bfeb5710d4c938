-- The moves of a batch and their lines, one after the other.
use Rattle.std.proofs.Common.{◌≡◌, ℕ, ◌+◌, ◌<◌, ◌≤◌, List, [], ◌∷◌, ◌++◌, length, get_or, drop, refl, sym, ap, ◌∙◌, append_assoc}
use Rattle.std.proofs.lemmas.List.{append-nil, drop_all, drop_more}
use Rattle.rsl_accounts.specs.Configuration.{Configuration}
use Rattle.rsl_shard.specs.declared.moved.Move.{Move}
use Rattle.rld_books.specs.Server.{ServerSeen, decision_in, replay, server_after}
use Rattle.rld_lines.specs.Lines.{line, lines_of}

replay_first : (server : ServerSeen) (moved : Move) (moves : List Move)
    → replay server (moved ∷ moves) ≡ replay (server_after server moved) moves
unfolding replay
replay_first server moved moves = refl

replay_none : (server : ServerSeen) → replay server [] ≡ server
unfolding replay
replay_none server = refl

lines_first : (file : List ℕ) (config : Configuration) (number : ℕ) (server : ServerSeen)
    (moved : Move) (moves : List Move) → lines_of file config number server (moved ∷ moves)
    ≡ line file config (number + 1) moved (decision_in server moved)
    ++ lines_of file config (number + 1) (server_after server moved) moves
unfolding lines_of
lines_first file config number server moved moves = refl

lines_none : (file : List ℕ) (config : Configuration) (number : ℕ) (server : ServerSeen)
    → lines_of file config number server [] ≡ []
unfolding lines_of
lines_none file config number server = refl

-- the books with one move more
pub books_more : (server next all : ServerSeen) (moves : List Move) (i : ℕ) (moved : Move)
    → i < length moves → moved ≡ get_or moves i moved → next ≡ server_after server moved
    → replay server (drop i moves) ≡ all → replay next (drop (i + 1) moves) ≡ all
books_more server next all moves i moved within is stepped so =
    ap (λ (b : ServerSeen). replay b (drop (i + 1) moves)) (stepped ∙ ap (server_after server) is)
    ∙ sym (replay_first server (get_or moves i moved) (drop (i + 1) moves))
    ∙ ap (replay server) (sym (drop_more moves i moved within))
    ∙ so

-- the lines with one move more
pub lines_more : (file : List ℕ) (config : Configuration) (number more : ℕ) (server next : ServerSeen)
    (moves : List Move) (i : ℕ) (moved : Move) (out new all : List ℕ)
    → i < length moves → moved ≡ get_or moves i moved → more ≡ number + 1
    → next ≡ server_after server moved
    → new ≡ out ++ line file config (number + 1) moved (decision_in server moved)
    → out ++ lines_of file config number server (drop i moves) ≡ all
    → new ++ lines_of file config more next (drop (i + 1) moves) ≡ all
lines_more file config number more server next moves i moved out new all within is counted stepped added so =
    let rest : List Move = drop (i + 1) moves in
    let own : Move → List ℕ = λ z. line file config (number + 1) z (decision_in server z) in
    ap (λ (o : List ℕ). o ++ lines_of file config more next rest) added
    ∙ append_assoc out (own moved) (lines_of file config more next rest)
    ∙ ap (λ (n : ℕ). out ++ (own moved ++ lines_of file config n next rest)) counted
    ∙ ap (λ (b : ServerSeen). out ++ (own moved ++ lines_of file config (number + 1) b rest)) stepped
    ∙ ap (λ (z : Move). out ++ (own z ++ lines_of file config (number + 1) (server_after server z) rest)) is
    ∙ ap (λ (l : List ℕ). out ++ l) (sym (lines_first file config number server (get_or moves i moved) rest))
    ∙ ap (λ (l : List Move). out ++ lines_of file config number server l) (sym (drop_more moves i moved within))
    ∙ so

-- the books after the last move
pub books_all : (server all : ServerSeen) (moves : List Move) (i : ℕ) → length moves ≤ i
    → replay server (drop i moves) ≡ all → server ≡ all
books_all server all moves i past so =
    sym (ap (replay server) (drop_all i moves past) ∙ replay_none server) ∙ so

-- the lines after the last move
pub lines_all : (file : List ℕ) (config : Configuration) (number : ℕ) (server : ServerSeen)
    (moves : List Move) (i : ℕ) (out all : List ℕ) → length moves ≤ i
    → out ++ lines_of file config number server (drop i moves) ≡ all → out ≡ all
lines_all file config number server moves i out all past so =
    sym (ap (λ (l : List Move). out ++ lines_of file config number server l) (drop_all i moves past)
    ∙ ap (λ (l : List ℕ). out ++ l) (lines_none file config number server)
    ∙ append-nil out)
    ∙ so
