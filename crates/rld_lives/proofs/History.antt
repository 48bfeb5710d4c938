-- The history of all lives: the books and the journal of a life after others.
use Rattle.std.proofs.Common.{List, [], ◌∷◌, refl, ap}
use Rattle.rsl_shard.specs.declared.line.Line.{Line}
use Rattle.rsl_shard.specs.declared.moved.Move.{Move}
use Rattle.rld_books.specs.Server.{ServerSeen, decision_in, journal_of, replay, server_after}
use Rattle.rld_lives.specs.Lives.{BooksGoOn, JournalGoesOn}

pub books_go_on : (server : ServerSeen) (earlier life : List Move) → BooksGoOn server earlier life
unfolding replay
books_go_on server [] life = refl
books_go_on server (moved ∷ earlier) life = books_go_on (server_after server moved) earlier life

pub journal_goes_on : (server : ServerSeen) (earlier life : List Move) → JournalGoesOn server earlier life
unfolding journal_of replay
journal_goes_on server [] life = refl
journal_goes_on server (moved ∷ earlier) life =
    ap (λ (lines : List Line). record { moved = moved; decision = decision_in server moved } ∷ lines) (journal_goes_on (server_after server moved) earlier life)
