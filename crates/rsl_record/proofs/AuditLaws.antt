-- An audit steps books, in place of a look back over all lines before each: what the books decide is what the
-- rule finds.
use Rattle.std.proofs.Common.{◌≡◌, List, [], ◌∷◌, ◌++◌, Option, Some, None, refl, sym, ap, ◌∙◌, ℕ, ◌+◌, ◌*◌, ◌/◌, ◌%◌, ◌<◌, arith}
use Rattle.std.specs.Prelude.{slice_get}
use Rattle.std.specs.List.{cons_option}
use Rattle.std.specs.Option.{option_map, option_map_or}
use Rattle.rsl_accounts.specs.Configuration.{Configuration}
use Rattle.rsl_accounts.specs.declared.entry.Entry.{Entry}
use Rattle.rsl_accounts.specs.declared.rules.Rules.{Rules}
use Rattle.rsl_book.specs.RuledBook.{RuledBook}
use Rattle.rsl_event.specs.declared.event.Decision.{Decision}
use Rattle.rsl_event.specs.declared.event.Decision.TheVariants.{Done}
use Rattle.rsl_event.specs.declared.event.Event.{Event}
use Rattle.rsl_session.specs.Book.{Book, new_book}
use Rattle.rsl_session.specs.BookStep.{book_after, step}
use Rattle.rsl_session.specs.Rule.{decision_of, outcome_of, past_of}
use Rattle.rsl_session.proofs.Callers.{IsRuled-past_of, books_are, joins}
use Rattle.rsl_shard.specs.Moves.{IsTaken, event_to, own_in}
use Rattle.rsl_shard.specs.Restep.{book_at, book_of_entry, books_after, decision_by, new_books, restep, step_by}
use Rattle.rsl_shard.specs.Setup.{Setup, setup_of}
use Rattle.rsl_shard.specs.declared.line.Line.{Line}
use Rattle.rsl_shard.specs.declared.moved.Move.{Move}
use Rattle.rsl_shard.specs.declared.moved.Move.TheVariants.{Own, Sweep, Tick, Stray}
use Rattle.rsl_shard.proofs.Callers.{account_is, book_at_index, moved_book, new_book_at}
use Rattle.rsl_record.specs.Restep.{books_by_restep, rule_decision}

-- ---- the books

-- the decision of an account's book on an event is the rule's
stepped_decision : (rules : Rules) (events : List Event) (event : Event)
    → (step rules (book_after rules new_book events) event).1 ≡ decision_of (outcome_of rules (past_of rules events) event)
stepped_decision rules events event =
    ap (λ (book : Book). (step rules book event).1) (books_are rules events)
    ∙ ap (λ (next : Book × Decision). next.1) (joins rules (past_of rules events) event (IsRuled-past_of rules events))

restep-append : (setup : Setup) (opening : List RuledBook) (xs ys : List Line) → restep setup opening (xs ++ ys) ≡ restep setup (restep setup opening xs) ys
unfolding restep
restep-append setup opening [] ys = refl
restep-append setup opening (x ∷ xs) ys = restep-append setup (books_after setup opening x.moved) xs ys

-- the books after one line more
pub restepped-more : (config : Configuration) (shard : ℕ) (before : List Line) (line : Line)
    → books_by_restep config shard (before ++ line ∷ []) ≡ books_after (setup_of config shard) (books_by_restep config shard before) line.moved
unfolding books_by_restep restep
restepped-more config shard before line = restep-append (setup_of config shard) (new_books config shard) before (line ∷ [])

-- a book of an account after its own events among lines
book_past : (account : ℕ) → List Line → RuledBook → RuledBook
book_past account lines ruled = record { rules = ruled.rules; book = book_after ruled.rules ruled.book (own_in account lines) }

book_past-first : (account : ℕ) (line : Line) (lines : List Line) (ruled : RuledBook)
    → book_past account lines (step_by (event_to account line.moved) ruled) ≡ book_past account (line ∷ lines) ruled
unfolding book_past book_after own_in
book_past-first account line lines ruled = by (event_to account line.moved)
  where
    by : (o : Option Event)
        → book_past account lines (step_by o ruled)
        ≡ (let it : RuledBook = record { rules = ruled.rules; book = book_after ruled.rules ruled.book (cons_option o (own_in account lines)) } in it)
    by None = refl
    by (Some event) = refl

book_past-none : (account : ℕ) (o : Option RuledBook) → o ≡ option_map (book_past account []) o
unfolding book_past book_after own_in
book_past-none account None = refl
book_past-none account (Some ruled) = refl

book_past-more : (account : ℕ) (line : Line) (lines : List Line) (o : Option RuledBook)
    → option_map (book_past account lines) (option_map (step_by (event_to account line.moved)) o) ≡ option_map (book_past account (line ∷ lines)) o
book_past-more account line lines None = refl
book_past-more account line lines (Some ruled) = ap (λ (book : RuledBook). Some book) (book_past-first account line lines ruled)

book_at-restep : (setup : Setup) (opening : List RuledBook) (lines : List Line) (account : ℕ)
    → book_at setup (restep setup opening lines) account ≡ option_map (book_past account lines) (book_at setup opening account)
unfolding restep
book_at-restep setup opening [] account = book_past-none account (book_at setup opening account)
book_at-restep setup opening (line ∷ lines) account =
    book_at-restep setup (books_after setup opening line.moved) lines account
    ∙ ap (option_map (book_past account lines)) (moved_book setup.shard setup.shards account line.moved opening)
    ∙ book_past-more account line lines (book_at setup opening account)

-- the new book of an account of a shard
book_at-new : (config : Configuration) (shard account : ℕ) → shard < config.settings.shards → account % config.settings.shards ≡ shard
    → book_at (setup_of config shard) (new_books config shard) account ≡ option_map book_of_entry (slice_get config.accounts account)
book_at-new config shard account less is =
    let index : ℕ = account / config.settings.shards in
    let at : account ≡ shard + account / config.settings.shards * config.settings.shards = account_is config.settings.shards shard account is in
    book_at_index shard config.settings.shards account (account / config.settings.shards) (new_books config shard) (omega (arith, less)) at
    ∙ new_book_at config shard (account / config.settings.shards) less
    ∙ ap (λ (n : ℕ). option_map book_of_entry (slice_get config.accounts n)) (sym at)

-- what the books decide on a move that the shard takes is what the rule decides
pub decided_as_ruled : (config : Configuration) (shard : ℕ) (before : List Line) (moved : Move) → shard < config.settings.shards → IsTaken (setup_of config shard) moved
    → decision_by (setup_of config shard) (books_by_restep config shard before) moved ≡ rule_decision config before moved
unfolding books_by_restep book_past
decided_as_ruled config shard before (Own account event) less own =
    ap (λ (o : Option RuledBook). option_map_or (λ (ruled : RuledBook). (step ruled.rules ruled.book event).1) o Done)
    (book_at-restep (setup_of config shard) (new_books config shard) before account
    ∙ ap (option_map (book_past account before)) (book_at-new config shard account less own.own_account.of_shard))
    ∙ by (slice_get config.accounts account)
  where
    by : (o : Option Entry)
        → option_map_or (λ (ruled : RuledBook). (step ruled.rules ruled.book event).1) (option_map (book_past account before) (option_map book_of_entry o)) Done
        ≡ option_map_or (λ (entry : Entry). decision_of (outcome_of entry.rules (past_of entry.rules (own_in account before)) event)) o Done
    by None = refl
    by (Some entry) = stepped_decision entry.rules (own_in account before) event
decided_as_ruled config shard before (Sweep moment nas delay) less taken = refl
decided_as_ruled config shard before (Tick moment) less taken = refl
decided_as_ruled config shard before (Stray moment note) less taken = refl
