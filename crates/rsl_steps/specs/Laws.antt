-- Laws of runs, each the contract of a function of `laws`.
use Rattle.std.specs.Prelude.{◌≡◌, ◌≢◌, ℕ, ◌%◌, ◌<◌, ◌≤◌, IsTrue, Bool, false, List, [], ◌∷◌, ◌++◌, map, take, All, slice_get, Some, is_some, if◌then◌else◌}
use Rattle.std.specs.List.{flat_map, range_with_len}
use Rattle.rsl_accounts.specs.Configuration.{Configuration}
use Rattle.rsl_accounts.specs.Limits.{IsConfiguration}
use Rattle.rsl_accounts.specs.declared.entry.Entry.{Entry}
use Rattle.rsl_accounts.specs.declared.rules.Rules.{Rules}
use Rattle.rsl_event.specs.Meaning.{meaning}
use Rattle.rsl_event.specs.declared.event.Event.{Event}
use Rattle.rsl_event.specs.declared.event.Source.{Source}
use Rattle.rsl_event.specs.declared.meaning.Port.{Port}
use Rattle.rsl_event.specs.declared.nas.Nas.{Nas}
use Rattle.rsl_event.specs.declared.words.Said.{Said}
use Rattle.rsl_session.specs.Book.{places_in}
use Rattle.rsl_session.specs.BookOf.{book_of}
use Rattle.rsl_session.specs.Rule.{past_of, places_after}
use Rattle.rsl_book.specs.RuledBook.{RuledBook}
use Rattle.rsl_shard.specs.Journal.{IsJournal}
use Rattle.rsl_shard.specs.Moves.{IsOfShard, own_in}
use Rattle.rsl_shard.specs.Restep.{book_at, new_books, restep}
use Rattle.rsl_shard.specs.Seen.{ShardSeen}
use Rattle.rsl_shard.specs.Setup.{setup_of}
use Rattle.rsl_shard.specs.declared.line.Line.{Line}
use Rattle.rsl_shard.specs.declared.moved.Move.{Move}
use Rattle.rsl_steps.specs.Books.{answer_by_book}
use Rattle.rsl_steps.specs.Moves.{shard_moves}
use Rattle.rsl_steps.specs.Own.{own, own_event, own_events}
use Rattle.rsl_steps.specs.Ran.{AreShards, HasBookOf}
use Rattle.rsl_steps.specs.Run.{AreAnswers, answer_after, decision_after, steps_taken}
use Rattle.rsl_steps.specs.declared.step.Answer.{Answer}
use Rattle.rsl_steps.specs.declared.step.Answer.TheVariants.{Reply}
use Rattle.rsl_steps.specs.declared.step.Step.{Step}
use Rattle.rsl_steps.specs.declared.step.Step.TheVariants as steps
use Rattle.rsl_steps.specs.declared.step.Step.TheVariants.{Datagram}

-- ---- equal own events

-- whether a step is an account's own packet
abbrev pub is_own_packet : Configuration → (boot account : ℕ) → Step → Bool
is_own_packet config boot account (Datagram moment port source octets) =
    is_some (own_event account moment (meaning config boot port source octets))
is_own_packet config boot account _ = false

-- the words of the replies to an account's own packets, in order
unfoldable pub words_to : Configuration → (boot account : ℕ) → List Step → List Answer → List Said
words_to config boot account (step ∷ steps) (Reply said octets ∷ answers) =
    if is_own_packet config boot account step then said ∷ words_to config boot account steps answers
    else words_to config boot account steps answers
words_to config boot account (step ∷ steps) (answer ∷ answers) =
    words_to config boot account steps answers
words_to config boot account _ _ = []

-- an account of a server, and steps that the server has answered
pub record Served : Type 0 where
  pub config : Configuration
  pub boot : ℕ
  pub account : ℕ
  pub entry : Entry
  pub steps : List Step
  pub answers : List Answer
  pub there : slice_get config.accounts account ≡ Some entry
  pub answered : AreAnswers config boot [] steps answers

-- the words that the account is answered
abbrev pub words_of : Served → List Said
words_of served = words_to served.config served.boot served.account served.steps served.answers

-- its own events, among the steps that were made
abbrev pub events_of : Served → List Event
events_of served =
    own served.config served.boot served.account (steps_taken [] served.steps served.answers)

-- the places that it holds
abbrev pub places_held : Served → ℕ
places_held served = places_after served.entry.rules (events_of served)

-- Two accounts with the same rules and equal own events are answered the same words, and hold as
-- many places, whatever else is in their servers' configurations and steps.
abbrev pub EqualOwnEventsAreAnsweredAlike : Type 0
EqualOwnEventsAreAnsweredAlike =
    (one other : Served) → one.entry.rules ≡ other.entry.rules → events_of one ≡ events_of other
    → (words_of one ≡ words_of other) × (places_held one ≡ places_held other)

-- ---- packets of two accounts

-- if neighbouring packets of two accounts are exchanged, every account's own events stay
abbrev pub PacketsOfTwoAccountsCommute : Type 0
PacketsOfTwoAccountsCommute =
    (config : Configuration) (boot account one other : ℕ) (before after : List Step)
    (first second : Step)
    → one ≢ other → IsTrue (is_own_packet config boot one first)
    → IsTrue (is_own_packet config boot other second)
    → own_events config boot account (before ++ first ∷ second
    ∷ after) ≡ own_events config boot account (before ++ second ∷ first ∷ after)

-- ---- the number of shards

-- what comes to a server with any number of shards: a datagram, or a restart or a tick to every
-- shard together
pub data Coming : Type 0 where
  Packet : (moment : ℕ) → Port → Source → (octets : List ℕ) → Coming
  Restart : (moment : ℕ) → Nas → (delay : ℕ) → Coming
  Time : (moment : ℕ) → Coming

-- its steps, for this many shard numbers
abbrev pub steps_to : (shards : ℕ) → Coming → List Step
steps_to shards (Packet moment port source octets) = Datagram moment port source octets ∷ []
steps_to shards (Restart moment nas delay) =
    map (λ shard. steps.Sweep shard moment nas delay) (range_with_len 0 shards)
steps_to shards (Time moment) = map (λ shard. steps.Tick shard moment) (range_with_len 0 shards)

abbrev pub with_shards : Configuration → (shards : ℕ) → Configuration
with_shards config shards = record config { settings = record config.settings { shards = shards } }

-- each account has the same own events with another number of shards, all else being equal, if each
-- restart and each tick comes to all shards of either
abbrev pub TheNumberOfShardsDoesNotMatter : Type 0
TheNumberOfShardsDoesNotMatter =
    (config : Configuration) (boot account shards numbers : ℕ) (comings : List Coming)
    → 0 < config.settings.shards → 0 < shards → config.settings.shards ≤ numbers → shards ≤ numbers
    → own_events config boot account (flat_map (steps_to numbers) comings) ≡ own_events
    (with_shards config shards) boot account (flat_map (steps_to numbers) comings)

-- ---- an early tick

abbrev pub moment_of : Step → ℕ
moment_of (Datagram moment port source octets) = moment
moment_of (steps.Sweep shard moment nas delay) = moment
moment_of (steps.Tick shard moment) = moment

-- A tick before steps none of which has a lower moment: they are answered as without it, octet for
-- octet, and after its next own event each account holds as many places.
abbrev pub EarlyTicksChangeNothing : Type 0
EarlyTicksChangeNothing =
    (config : Configuration) (boot shard moment : ℕ) (before after : List Step)
    (answers : List Answer)
    → All (λ step. moment ≤ moment_of step) after → AreAnswers config boot before after answers
    → AreAnswers config boot (steps.Tick shard moment ∷ before) after answers
    × ((account : ℕ) (entry : Entry) → slice_get config.accounts account ≡ Some entry
    → own config boot account (steps_taken [] after answers) ≢ []
    → places_after entry.rules (own config boot account (steps_taken (steps.Tick shard moment
    ∷ before) after answers)) ≡ places_after entry.rules
    (own config boot account (steps_taken before after answers)))

-- ---- a journal

-- what the journal of a shard whose books began new says of an account of the shard
pub record ObeysTheRule (config : Configuration) (shard account : ℕ) (rules : Rules)
    (lines : List Line) : Type 0 where
  -- each line of the account's own has the decision that the rule finds by looking back
  pub decided : (n : ℕ) (line : Line) (event : Event) → slice_get lines n ≡ Some line
      → line.moved ≡ Move.Own account event
      → line.decision ≡ decision_after rules (own_in account (take n lines)) event
  -- its book has the clock, the links, the accept number, the kept asks and stops and the over
  -- count of its past
  pub ruled : RuledBook
  pub there : book_at (setup_of config shard)
      (restep (setup_of config shard) (new_books config shard) lines) account ≡ Some ruled
  pub ruled_by : ruled.rules ≡ rules
  pub book : ruled.book ≡ book_of rules (past_of rules (own_in account lines))
  -- and so its places are the rule's
  pub places : places_in rules ruled.book ≡ places_after rules (own_in account lines)

-- a journal obeys the rule: so do the decisions, the book and the places of each account of its
-- shard, over the account's own events among the lines
abbrev pub JournalsObeyTheRule : Type 0
JournalsObeyTheRule =
    (config : Configuration) (shard account : ℕ) (entry : Entry) (lines : List Line)
    → IsJournal (setup_of config shard) (new_books config shard) lines
    → IsOfShard (setup_of config shard) account → shard < config.settings.shards
    → slice_get config.accounts account ≡ Some entry
    → ObeysTheRule config shard account entry.rules lines

-- ---- shards

-- an account's own events among the moves of its shard are those among the steps
abbrev pub JournalsHaveOwnEvents : Type 0
JournalsHaveOwnEvents =
    (config : Configuration) (boot account : ℕ) (before : List Step) (lines : List Line)
    → map (λ (line : Line). line.moved) lines ≡ shard_moves config boot
    (account % config.settings.shards) before
    → own_in account lines ≡ own config boot account before

-- new books answer each step as looking back does
abbrev pub BooksAnswerAsLookingBack : Type 0
BooksAnswerAsLookingBack = (config : Configuration) (boot : ℕ) (before : List Step) (step : Step)
    → answer_by_book config boot before step ≡ answer_after config boot before step

-- if the journals of new shards have the moves of some steps, each account's book is that of its
-- own events among them, and holds the places that the session rule finds by looking back over them
abbrev pub ShardsObeyTheRule : Type 0
ShardsObeyTheRule =
    (config : Configuration) (boot account : ℕ) (entry : Entry) (before : List Step)
    (shards : List ShardSeen)
    → IsConfiguration config → AreShards config boot before shards
    → slice_get config.accounts account ≡ Some entry
    → HasBookOf config account entry.rules (own config boot account before) shards
