-- Laws of what is carried over when the accounts change.
--
-- They speak of a book that was saved, as any book of a server can be: its links name their
-- sessions and bundles at their own access servers.
use Rattle.std.specs.Prelude.{◌≡◌, ℕ, ◌≤◌, max, All, IsTrue, List, find, false, slice_get, Option, Some, None}
use Rattle.std.specs.List.{list_any}
use Rattle.rsl_accounts.specs.Configuration.{comes_twice}
use Rattle.rsl_accounts.specs.Limits.{RulesFit}
use Rattle.rsl_accounts.specs.declared.rules.Rules.{Rules}
use Rattle.rsl_book.specs.Restored.{misfit}
use Rattle.rsl_event.specs.declared.event.Act.TheVariants.{Ask}
use Rattle.rsl_event.specs.declared.event.Key.{Key}
use Rattle.rsl_event.specs.declared.nas.Nas.{Nas}
use Rattle.rsl_session.specs.Saved.{saved_book}
use Rattle.rsl_session.specs.declared.saved.SavedBook.{SavedBook}
use Rattle.rsl_session.specs.Ask.{repeats}
use Rattle.rsl_session.specs.Book.{Book, BookLink, places_in}
use Rattle.rsl_session.specs.BookStep.{come_to, step}
use Rattle.rsl_session.specs.Closed.{closes}
use Rattle.rsl_session.specs.declared.kept.KeptAsk.{KeptAsk}
use Rattle.rsl_session.specs.declared.kept.KeptStop.{KeptStop}
use Rattle.rsl_session.specs.declared.session.Session.{Session}
use Rattle.rld_spelling.specs.TableSpelled.{TableSeen}
use Rattle.rld_spelling.specs.declared.table.TableClient.{TableClient}
use Rattle.rld_books.specs.Admitted.{addresses_of, next_number}
use Rattle.rld_books.specs.Carried.{Next, carried_book, carried_session, goes_on, links_on}

-- no two clients become one
abbrev pub IsOneToOne : Next → Type 0
IsOneToOne next = (one other number : ℕ) → next one ≡ Some number → next other ≡ Some number
    → one ≡ other

-- ---- what an account that stays with its rules keeps

-- Of the links at clients that go on none is lost, if their places are within the limit of the
-- rules: each keeps its position among the others, its session, its station, its opening and its
-- last touch.
abbrev pub SessionsStay : Type 0
SessionsStay =
    (next : Next) (rules : Rules) (kept : SavedBook) → RulesFit rules → IsOneToOne next
    → places_in rules (saved_book kept) ≤ rules.places
    → (carried_book next rules (saved_book kept)).links ≡ links_on next (saved_book kept).links

-- A session at a client that goes on is closed exactly if it was closed before.
abbrev pub ClosedSessionsStay : Type 0
ClosedSessionsStay =
    (next : Next) (rules : Rules) (book : Book) (session : Session) (now : ℕ) → IsOneToOne next
    → IsTrue (goes_on next session.nas)
    → list_any (closes rules (carried_session next session) now) (carried_book next rules book).stops
    ≡ list_any (closes rules session now) book.stops

-- A retransmission of an ask from a client that goes on is decided as the ask was, and opens
-- nothing.
abbrev pub RepeatsOpenNothing : Type 0
RepeatsOpenNothing =
    (next : Next) (rules : Rules) (book : Book) (key : Key) (nas : Nas) (station : Option (List ℕ))
    (moment : ℕ) (kept : KeptAsk)
    → find (repeats rules key (max book.clock moment)) book.asks ≡ Some kept
    → IsTrue (goes_on next kept.nas)
    → step rules (carried_book next rules book)
    (record { moment = moment; act = Ask key nas station })
    ≡ (come_to rules (carried_book next rules book) moment, kept.decision)

-- ---- what no account has

-- The places never exceed the limit of the rules.
abbrev pub PlacesStayWithinTheLimit : Type 0
PlacesStayWithinTheLimit =
    (next : Next) (rules : Rules) (book : Book)
    → places_in rules (carried_book next rules book) ≤ rules.places

-- If a link of a client that goes on finds no place, every place is held: no other place is free.
abbrev pub NobodyNewComesIn : Type 0
NobodyNewComesIn =
    (next : Next) (rules : Rules) (book : Book) → RulesFit rules
    → ((carried_book next rules book).links ≡ links_on next book.links → ⊥)
    → places_in rules (carried_book next rules book) ≡ rules.places

-- the number of some client after the change
abbrev pub IsNext : Next → ℕ → Type 0
IsNext next number = (client : ℕ) × (next client ≡ Some number)

-- nothing of a client that is gone is in a book
pub record IsOfClients (next : Next) (book : Book) : Type 0 where
  pub links : All (λ (link : BookLink). IsNext next link.nas.client) book.links
  pub asks : All (λ (ask : KeptAsk). IsNext next ask.nas.client) book.asks
  pub stops : All (λ (stop : KeptStop). IsNext next stop.session.nas.client) book.stops

abbrev pub NothingGoneIsLeft : Type 0
NothingGoneIsLeft =
    (next : Next) (rules : Rules) (book : Book) → IsOfClients next (carried_book next rules book)

-- A carried book can be restored, as a book of an account with the new rules.
abbrev pub CarriedBooksFit : Type 0
CarriedBooksFit =
    (next : Next) (before rules : Rules) (book : Book) → misfit before book ≡ None
    → misfit rules (carried_book next rules book) ≡ None

-- ---- the numbers of clients

-- clients of two tables with one address
pub record IsSameClient (old new : TableSeen) (client number : ℕ) : Type 0 where
  pub was : TableClient
  pub is : TableClient
  pub there_before : slice_get old.clients client ≡ Some was
  pub there : slice_get new.clients number ≡ Some is
  pub address : was.address ≡ is.address

-- The number of a client after the change is that of its address, and no two of a table's clients
-- become one if no address comes twice in it.
pub record ClientsKeepTheirAddress : Type 0 where
  pub same : (old new : TableSeen) (client number : ℕ) → next_number old new client ≡ Some number
      → IsSameClient old new client number
  pub one_to_one : (old new : TableSeen) → comes_twice (addresses_of old) ≡ false
      → IsOneToOne (next_number old new)
