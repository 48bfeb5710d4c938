-- The books of a history, account by account, from those that it opened with.
use Rattle.std.proofs.Common.{◌≡◌, ℕ, zero, suc, ◌≤◌, List, [], ◌∷◌, take, Option, Some, None, refl, sym, ap, subst, ◌∙◌}
use Rattle.std.specs.Prelude.{slice_get}
use Rattle.std.specs.List.{cons_option}
use Rattle.std.specs.Option.{option_map, option_map_or}
use Rattle.std.proofs.lemmas.Option.{slice_get_within, get_or_from_slice_get}
use Rattle.rsl_accounts.specs.Configuration.{Configuration}
use Rattle.rsl_accounts.specs.Limits.{IsAccount, IsConfiguration, RulesFit}
use Rattle.rsl_accounts.specs.declared.entry.Entry.{Entry}
use Rattle.rsl_accounts.specs.declared.rules.Rules.{Rules}
use Rattle.rsl_book.specs.RuledBook.{IsWithinLimit, RuledBook}
use Rattle.rsl_event.specs.declared.event.Decision.TheVariants.{Done}
use Rattle.rsl_event.specs.declared.event.Event.{Event}
use Rattle.rsl_session.specs.Book.{Book, places_in}
use Rattle.rsl_session.specs.BookLaws.{StepsStayWithinTheLimit}
use Rattle.rsl_session.specs.BookStep.{book_after, step}
use Rattle.rsl_shard.specs.Moves.{event_to, own_in}
use Rattle.rsl_shard.specs.Restep.{step_by}
use Rattle.rsl_shard.specs.declared.line.Line.{Line}
use Rattle.rsl_shard.specs.declared.moved.Move.{Move}
use Rattle.rsl_shard.specs.declared.moved.Move.TheVariants.{Own}
use Rattle.rld_books.proofs.Callers.{book_after_move}
use Rattle.rld_books.specs.Saved.{book_in}
use Rattle.rld_books.specs.Server.{ServerSeen, decision_in, journal_of, replay, server_after}
use Rattle.rld_lives.specs.Within.{HistoriesStayWithinLimits, after_own}

-- ---- one move

-- what events make of a book, with one more before them
abbrev after_events : List Event → RuledBook → RuledBook
after_events events begun = record { rules = begun.rules; book = book_after begun.rules begun.book events }

own_more : (begun : RuledBook) (event : Option Event) (events : List Event) → after_events events (step_by event begun) ≡ after_events (cons_option event events) begun
unfolding book_after
own_more begun None events = refl
own_more begun (Some event) events = refl

line_more : (account : ℕ) (begun : RuledBook) (line : Line) (lines : List Line) → after_own account (step_by (event_to account line.moved) begun) lines ≡ after_own account begun (line ∷ lines)
unfolding own_in
line_more account begun line lines = own_more begun (event_to account line.moved) (own_in account lines)

no_line : (account : ℕ) (begun : RuledBook) → begun ≡ after_own account begun []
unfolding own_in book_after
no_line account begun = refl

stepped : (server : ServerSeen) (account : ℕ) (begun : RuledBook) (moved : Move) → book_in server account ≡ Some begun → book_in (server_after server moved) account ≡ Some (step_by (event_to account moved) begun)
stepped server account begun moved is = book_after_move server account moved ∙ ap (option_map (step_by (event_to account moved))) is

-- ---- moves

book_after_moves : (server : ServerSeen) (account : ℕ) (begun : RuledBook) (moves : List Move) → book_in server account ≡ Some begun → book_in (replay server moves) account ≡ Some (after_own account begun (journal_of server moves))
unfolding replay journal_of
book_after_moves server account begun [] is = is ∙ ap Some (no_line account begun)
book_after_moves server account begun (moved ∷ moves) is =
    book_after_moves (server_after server moved) account (step_by (event_to account moved) begun) moves (stepped server account begun moved is)
    ∙ ap Some (line_more account begun (record { moved = moved; decision = decision_in server moved }) (journal_of (server_after server moved) moves))

decided_after : (server : ServerSeen) (account : ℕ) (begun : RuledBook) (moves : List Move) → book_in server account ≡ Some begun
    → (n : ℕ) (line : Line) (event : Event) → slice_get (journal_of server moves) n ≡ Some line → line.moved ≡ Own account event
    → line.decision ≡ (step begun.rules (after_own account begun (take n (journal_of server moves))).book event).1
unfolding journal_of
decided_after server account begun [] is n line event at own = absurd (cc at)
decided_after server account begun (moved ∷ moves) is zero line event at own =
    let first : Line = record { moved = moved; decision = decision_in server moved } in
    let this : line ≡ first = cc in
    let its : moved ≡ Own account event = ap (λ (l : Line). l.moved) (sym this) ∙ own in
    ap (λ (l : Line). l.decision) this ∙ ap (decision_in server) its
    ∙ ap (λ (found : Option RuledBook). option_map_or (λ (ruled : RuledBook). (step ruled.rules ruled.book event).1) found Done) is
    ∙ ap (λ (ruled : RuledBook). (step begun.rules ruled.book event).1) (no_line account begun)
decided_after server account begun (moved ∷ moves) is (suc n) line event at own =
    let first : Line = record { moved = moved; decision = decision_in server moved } in
    let now : RuledBook = step_by (event_to account moved) begun in
    decided_after (server_after server moved) account now moves (stepped server account begun moved is) n line event at own
    ∙ ap (λ (ruled : RuledBook). (step ruled.rules ruled.book event).1) (line_more account begun first (take n (journal_of (server_after server moved) moves)))

-- ---- within limits

pub account_fits : (config : Configuration) (account : ℕ) (entry : Entry) → IsConfiguration config → slice_get config.accounts account ≡ Some entry → RulesFit entry.rules
account_fits config account entry limits is =
    (subst (λ (x : Entry). IsAccount config.settings x) (get_or_from_slice_get config.accounts account entry entry is) (limits.each_account account entry (slice_get_within config.accounts account entry is))).rules

module _ (steps : StepsStayWithinTheLimit) where
  events_within : (rules : Rules) (book : Book) (events : List Event) → RulesFit rules → places_in rules book ≤ rules.places → places_in rules (book_after rules book events) ≤ rules.places
  unfolding book_after
  events_within rules book [] fit within = within
  events_within rules book (event ∷ events) fit within = events_within rules (step rules book event).0 events fit (steps rules book event fit within)

  own_within : (account : ℕ) (begun : RuledBook) (lines : List Line) → RulesFit begun.rules → IsWithinLimit begun → IsWithinLimit (after_own account begun lines)
  own_within account begun lines fit within = record { limit = events_within begun.rules begun.book (own_in account lines) fit within.limit }

  pub histories_stay : HistoriesStayWithinLimits
  histories_stay config opening moves limits opened = record {
    each = λ account entry begun there is.
        let found = opened.each account entry there in
        let same : found.ruled ≡ begun = one (sym found.there ∙ is) in
        let fit : RulesFit begun.rules = subst RulesFit (sym found.ruled_by ∙ ap (λ (r : RuledBook). r.rules) same) (account_fits config account entry limits there) in
        let within : IsWithinLimit begun = subst IsWithinLimit same found.within in
        record {
          decided = decided_after opening account begun moves is;
          there = book_after_moves opening account begun moves is;
          never_more = λ n. own_within account begun (take n (journal_of opening moves)) fit within;
        };
    after = record {
      each = λ account entry there.
          let found = opened.each account entry there in
          record {
            ruled = after_own account found.ruled (journal_of opening moves);
            there = book_after_moves opening account found.ruled moves found.there;
            ruled_by = found.ruled_by;
            within = own_within account found.ruled (journal_of opening moves) (subst RulesFit (sym found.ruled_by) (account_fits config account entry limits there)) found.within;
          };
    };
  }
    where
      one : {a b : RuledBook} → Some a ≡ Some b → a ≡ b
      one e = cc
