-- The book of an account after the lines of a journal is stepped by the account's own events among them.
use Rattle.std.proofs.Common.{◌≡◌, ℕ, List, [], ◌∷◌, Option, Some, None, refl, ap, ◌∙◌}
use Rattle.std.specs.List.{cons_option}
use Rattle.std.specs.Option.{option_map}
use Rattle.rsl_book.specs.RuledBook.{RuledBook}
use Rattle.rsl_event.specs.declared.event.Event.{Event}
use Rattle.rsl_session.specs.BookStep.{book_after}
use Rattle.rsl_shard.proofs.Callers.{moved_book}
use Rattle.rsl_shard.specs.Moves.{event_to, own_in}
use Rattle.rsl_shard.specs.Restep.{book_at, books_after, restep, step_by}
use Rattle.rsl_shard.specs.Setup.{Setup}
use Rattle.rsl_shard.specs.declared.line.Line.{Line}
use Rattle.rsl_shard.specs.declared.moved.Move.{Move}

-- a book after some events
unfoldable pub after : List Event → RuledBook → RuledBook
after events ruled = record { rules = ruled.rules; book = book_after ruled.rules ruled.book events }

step_more : (o : Option Event) (events : List Event) (ruled : RuledBook) → after events (step_by o ruled) ≡ after (cons_option o events) ruled
unfolding after book_after
step_more None events ruled = refl
step_more (Some event) events ruled = refl

steps_more : (account : ℕ) (moved : Move) (events : List Event) (o : Option RuledBook)
    → option_map (after events) (option_map (step_by (event_to account moved)) o) ≡ option_map (after (cons_option (event_to account moved) events)) o
steps_more account moved events None = refl
steps_more account moved events (Some ruled) = ap Some (step_more (event_to account moved) events ruled)

after_none : (o : Option RuledBook) → o ≡ option_map (after []) o
unfolding after book_after
after_none None = refl
after_none (Some ruled) = refl

pub restepped : (setup : Setup) (books : List RuledBook) (lines : List Line) (account : ℕ)
    → book_at setup (restep setup books lines) account ≡ option_map (after (own_in account lines)) (book_at setup books account)
unfolding restep own_in
restepped setup books [] account = after_none (book_at setup books account)
restepped setup books (line ∷ lines) account =
    restepped setup (books_after setup books line.moved) lines account
    ∙ ap (option_map (after (own_in account lines))) (moved_book setup.shard setup.shards account line.moved books)
    ∙ steps_more account line.moved (own_in account lines) (book_at setup books account)
