-- The laws that join the running book with the rule, each the contract of a function of `laws`. For
-- every past that follows the rule and every event, the step of the past's book is the book of the
-- past with the event, field by field, and its decision is the rule's.
use Rattle.std.specs.Prelude.{◌≡◌, ℕ, ◌*◌, ◌≤◌, List, ◌∷◌, length, take, count_by}
use Rattle.rsl_accounts.specs.Limits.{RulesFit}
use Rattle.rsl_accounts.specs.declared.rules.Rules.{Rules}
use Rattle.rsl_event.specs.declared.event.Event.{Event}
use Rattle.rsl_session.specs.Past.{Past}
use Rattle.rsl_session.specs.Binding.{is_reserved}
use Rattle.rsl_session.specs.Lapse.{is_live, is_stale}
use Rattle.rsl_session.specs.Held.{held_links}
use Rattle.rsl_session.specs.Places.{places}
use Rattle.rsl_session.specs.Ask.{KEPT_ASKS}
use Rattle.rsl_session.specs.Closed.{KEPT_STOPS}
use Rattle.rsl_session.specs.Rule.{IsRuled, decision_of, decisions, entry_of, outcome_of, past_of, places_after}
use Rattle.rsl_session.specs.Book.{Book, new_book, places_in, reserved_in, live_in, stale_in}
use Rattle.rsl_session.specs.BookStep.{step, book_after, decided_by}
use Rattle.rsl_session.specs.BookOf.{book_of}

-- the book of a past, stepped by an event, and the book of the past with the event
abbrev pub book_by_step : Rules → Past → Event → Book
book_by_step rules past event = (step rules (book_of rules past) event).0

abbrev pub book_by_past : Rules → Past → Event → Book
book_by_past rules past event = book_of rules (entry_of rules past event ∷ past)

abbrev pub ClockLaw : Type 0
ClockLaw = (rules : Rules) (past : Past) (event : Event) → IsRuled rules past
    → (book_by_step rules past event).clock ≡ (book_by_past rules past event).clock

abbrev pub LinksLaw : Type 0
LinksLaw = (rules : Rules) (past : Past) (event : Event) → IsRuled rules past
    → (book_by_step rules past event).links ≡ (book_by_past rules past event).links

abbrev pub AcceptNumberLaw : Type 0
AcceptNumberLaw = (rules : Rules) (past : Past) (event : Event) → IsRuled rules past
    → (book_by_step rules past event).accepts ≡ (book_by_past rules past event).accepts

abbrev pub KeptAsksLaw : Type 0
KeptAsksLaw = (rules : Rules) (past : Past) (event : Event) → IsRuled rules past
    → (book_by_step rules past event).asks ≡ (book_by_past rules past event).asks

abbrev pub KeptStopsLaw : Type 0
KeptStopsLaw = (rules : Rules) (past : Past) (event : Event) → IsRuled rules past
    → (book_by_step rules past event).stops ≡ (book_by_past rules past event).stops

abbrev pub OverLaw : Type 0
OverLaw = (rules : Rules) (past : Past) (event : Event) → IsRuled rules past
    → (book_by_step rules past event).over ≡ (book_by_past rules past event).over

abbrev pub DecisionLaw : Type 0
DecisionLaw = (rules : Rules) (past : Past) (event : Event) → IsRuled rules past
    → (step rules (book_of rules past) event).1 ≡ decision_of (outcome_of rules past event)

-- over whole lists of events: a new book decides as the rule does, and holds the rule's places
abbrev pub BooksDecideAsTheRule : Type 0
BooksDecideAsTheRule =
    (rules : Rules) (events : List Event)
    → decided_by rules new_book events ≡ decisions rules events

abbrev pub BooksAreThoseOfThePast : Type 0
BooksAreThoseOfThePast =
    (rules : Rules) (events : List Event)
    → book_after rules new_book events ≡ book_of rules (past_of rules events)

abbrev pub BooksHoldThePlacesOfTheRule : Type 0
BooksHoldThePlacesOfTheRule = (rules : Rules) (events : List Event)
    → places_in rules (book_after rules new_book events) ≡ places_after rules events

abbrev pub BooksStayWithinTheLimit : Type 0
BooksStayWithinTheLimit = (rules : Rules) (events : List Event) (n : ℕ) → RulesFit rules
    → places_in rules (book_after rules new_book (take n events)) ≤ rules.places

-- a step of any book within its limit leaves it within its limit
abbrev pub StepsStayWithinTheLimit : Type 0
StepsStayWithinTheLimit =
    (rules : Rules) (book : Book) (event : Event) → RulesFit rules
    → places_in rules book ≤ rules.places
    → places_in rules (step rules book event).0 ≤ rules.places

-- a book within its limit has at most as many links as its places have ports, and at most as many
-- places as links
abbrev pub LinksAreBounded : Type 0
LinksAreBounded =
    (rules : Rules) (book : Book) → RulesFit rules → places_in rules book ≤ rules.places
    → (length book.links ≤ rules.places * rules.ports) × (places_in rules book ≤ length book.links)

-- a book that keeps at most 8 asks and 16 stops does so after a step
abbrev pub KeptIsBounded : Type 0
KeptIsBounded =
    (rules : Rules) (book : Book) (event : Event) → length book.asks ≤ KEPT_ASKS
    → length book.stops ≤ KEPT_STOPS
    → (length (step rules book event).0.asks ≤ KEPT_ASKS)
    × (length (step rules book event).0.stops ≤ KEPT_STOPS)

-- the numbers that the book of a past shows are those that the rule counts among its held links
abbrev pub BooksShowTheRule : Type 0
BooksShowTheRule = (rules : Rules) (past : Past)
    → (places_in rules (book_of rules past) ≡ places rules past)
    × (reserved_in (book_of rules past) ≡ count_by (is_reserved past) (held_links rules past))
    × (live_in rules (book_of rules past) ≡ count_by (is_live rules past) (held_links rules past))
    × (stale_in rules (book_of rules past) ≡ count_by (is_stale rules past) (held_links rules past))
